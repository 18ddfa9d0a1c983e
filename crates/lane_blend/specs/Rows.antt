-- Rows of pixels as bytes: blue, green, red and alpha of each pixel, from the left.
use Rattle.std.specs.Prelude.{◌≡◌, ℕ, ◌+◌, ◌*◌, ◌/◌, ◌<◌, ◌≤◌, List, length, slice_index}
use Rattle.pixel_math.specs.Pixel.{PixelView, pixel_of}

-- the pixel at column i of a row
abbrev pub pixel_at : List ℕ → ℕ → PixelView
pixel_at row i =
    pixel_of (slice_index row (4 * i)) (slice_index row (4 * i + 1)) (slice_index row (4 * i + 2)) (slice_index row (4 * i + 3))

-- how many pixels a row has
abbrev pub width_of : List ℕ → ℕ
width_of row = length row / 4

-- a row of `width` pixels, the one at column i being `pixel i`
pub record IsRow (width : ℕ) (pixel : ℕ → PixelView) (row : List ℕ) : Type 0 where
  pub len : length row ≡ 4 * width
  pub pixels : (i : ℕ) → i < width → pixel_at row i ≡ pixel i

-- no colour byte of the pixel is above its alpha
pub record IsLowered (p : PixelView) : Type 0 where
  pub blue : p.b ≤ p.a
  pub green : p.g ≤ p.a
  pub red : p.r ≤ p.a

-- no pixel of the row has a colour byte above its alpha
abbrev pub AreLowered : List ℕ → Type 0
AreLowered row = (i : ℕ) → IsLowered (pixel_at row i)
