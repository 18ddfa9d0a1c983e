-- What contracts see of a pixel, and how one is made.
use Rattle.std.specs.Prelude.{ℕ, ◌+◌, ◌*◌, ◌/◌, ◌%◌, ◌<◌, ◌≤◌, ◌==◌, min, if◌then◌else◌, List, [], ◌∷◌}

-- blue, green, red and alpha, each one byte, the colours multiplied by the alpha
pub record PixelView : Type 0 where
  pub b : ℕ
  pub g : ℕ
  pub r : ℕ
  pub a : ℕ

-- the pixel of these bytes
abbrev pub pixel_of : ℕ → ℕ → ℕ → ℕ → PixelView
pixel_of b g r a = record { b = b; g = g; r = r; a = a }

-- each colour is at or below the alpha, and the alpha is one byte
pub record IsPixel (p : PixelView) : Type 0 where
  pub blue : p.b ≤ p.a
  pub green : p.g ≤ p.a
  pub red : p.r ≤ p.a
  pub byte : p.a < 256

-- the pixel of nothing
abbrev pub transparent : PixelView
transparent = pixel_of 0 0 0 0

-- these bytes, each colour above the alpha cut to the alpha
abbrev pub lowered : ℕ → ℕ → ℕ → ℕ → PixelView
lowered b g r a = pixel_of (min b a) (min g a) (min r a) a

-- a byte times a number of 255ths, rounded to the nearest byte
abbrev pub scaled : ℕ → ℕ → ℕ
scaled value by = (value * by + 127) / 255

-- these bytes, each colour multiplied by the alpha
abbrev pub multiplied : ℕ → ℕ → ℕ → ℕ → PixelView
multiplied b g r a = pixel_of (scaled b a) (scaled g a) (scaled r a) a

-- a colour byte as it was before it was multiplied by this alpha: 0 if the alpha is 0, and otherwise the nearest byte
abbrev pub straight : ℕ → ℕ → ℕ
straight colour alpha = if alpha == 0 then 0 else (colour * 255 + alpha / 2) / alpha

-- the colour 0xAARRGGBB of its four bytes
abbrev pub colour_value : ℕ → ℕ → ℕ → ℕ → ℕ
colour_value alpha red green blue = ((alpha * 0x100 + red) * 0x100 + green) * 0x100 + blue

-- the alpha byte of a colour 0xAARRGGBB
abbrev pub alpha_of : ℕ → ℕ
alpha_of value = value / 0x1000000 % 0x100

-- its red byte
abbrev pub red_of : ℕ → ℕ
red_of value = value / 0x10000 % 0x100

-- its green byte
abbrev pub green_of : ℕ → ℕ
green_of value = value / 0x100 % 0x100

-- its blue byte
abbrev pub blue_of : ℕ → ℕ
blue_of value = value % 0x100

-- the pixel of a colour 0xAARRGGBB, whose colours are not yet multiplied by its alpha
abbrev pub colour_pixel : ℕ → PixelView
colour_pixel value = multiplied (blue_of value) (green_of value) (red_of value) (alpha_of value)

-- the four bytes in the order of a frame
abbrev pub pixel_bytes : PixelView → List ℕ
pixel_bytes p = p.b ∷ p.g ∷ p.r ∷ p.a ∷ []
