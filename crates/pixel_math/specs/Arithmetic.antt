-- The arithmetic of pixels, byte by byte. Every quotient is rounded down.
use Rattle.std.specs.Prelude.{ℕ, ◌+◌, ◌-◌, ◌*◌, ◌/◌}
use Rattle.pixel_math.specs.Pixel.{PixelView, scaled}

-- a byte over a lower one, with the alpha of the upper pixel
abbrev pub over_byte : ℕ → ℕ → ℕ → ℕ
over_byte upper lower alpha = upper + (lower * (255 - alpha) + 127) / 255

-- the upper pixel s laid over the lower pixel d
abbrev pub over : PixelView → PixelView → PixelView
over s d = record {
  b = over_byte s.b d.b s.a;
  g = over_byte s.g d.g s.a;
  r = over_byte s.r d.r s.a;
  a = over_byte s.a d.a s.a;
}

-- a byte times an opacity in millionths
abbrev pub fade_byte : ℕ → ℕ → ℕ
fade_byte value opacity = (value * opacity + 500000) / 1000000

-- the pixel at an opacity in millionths
abbrev pub fade : PixelView → ℕ → PixelView
fade p opacity = record {
  b = fade_byte p.b opacity;
  g = fade_byte p.g opacity;
  r = fade_byte p.r opacity;
  a = fade_byte p.a opacity;
}

-- the pixel keyed by k 255ths
abbrev pub key : PixelView → ℕ → PixelView
key p k = record { b = scaled p.b k; g = scaled p.g k; r = scaled p.r k; a = scaled p.a k }

-- a byte at step j of d from the old one to the new one
abbrev pub mix_byte : ℕ → ℕ → ℕ → ℕ → ℕ
mix_byte old new j d = (old * (d - j) + new * j + d / 2) / d

-- the pixel at step j of d from the old one to the new one
abbrev pub mix : PixelView → PixelView → ℕ → ℕ → PixelView
mix old new j d = record {
  b = mix_byte old.b new.b j d;
  g = mix_byte old.g new.g j d;
  r = mix_byte old.r new.r j d;
  a = mix_byte old.a new.a j d;
}
