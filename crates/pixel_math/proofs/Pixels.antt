-- The laws of the formulas on pixels, for proofs here and in the crates above.
use Rattle.std.proofs.Common.{◌≡◌, ℕ, ◌<◌, arith}
use Rattle.pixel_math.specs.Pixel.{PixelView, pixel_of, IsPixel, transparent}
use Rattle.pixel_math.specs.Arithmetic.{over, fade, mix}
use Rattle.pixel_math.proofs.Bytes.{over_byte_nothing, mix_byte-le, mix_byte-same, mix_byte-lt}

-- pixels with equal bytes are equal
pub same_pixel : (p q : PixelView) → p.b ≡ q.b → p.g ≡ q.g → p.r ≡ q.r → p.a ≡ q.a → p ≡ q
same_pixel p q b g r a =
    let e : pixel_of p.b p.g p.r p.a ≡ pixel_of q.b q.g q.r q.a = cc in e

-- pixels mixed are a pixel
pub IsPixel-mix : (old new : PixelView) (j d : ℕ) → j < d → IsPixel old → IsPixel new → IsPixel (mix old new j d)
IsPixel-mix old new j d lt before after = record {
  blue = mix_byte-le _ _ _ _ j d (omega arith) before.blue after.blue;
  green = mix_byte-le _ _ _ _ j d (omega arith) before.green after.green;
  red = mix_byte-le _ _ _ _ j d (omega arith) before.red after.red;
  byte = mix_byte-lt _ _ j d lt before.byte after.byte;
}

-- a pixel over a transparent one stays as it is
pub over_transparent_lower : (p : PixelView) → over p transparent ≡ p
over_transparent_lower p =
    same_pixel _ _ (over_byte_nothing p.b p.a) (over_byte_nothing p.g p.a) (over_byte_nothing p.r p.a) (over_byte_nothing p.a p.a)

-- a pixel at full opacity stays as it is
pub fade_whole : (p : PixelView) → fade p 1000000 ≡ p
fade_whole p = same_pixel _ _ (omega arith) (omega arith) (omega arith) (omega arith)

-- a pixel mixed with itself stays as it is
pub mix_same : (p : PixelView) (j d : ℕ) → j < d → mix p p j d ≡ p
mix_same p j d lt =
    same_pixel _ _ (mix_byte-same p.b j d (omega arith) (omega arith)) (mix_byte-same p.g j d (omega arith) (omega arith)) (mix_byte-same p.r j d (omega arith) (omega arith)) (mix_byte-same p.a j d (omega arith) (omega arith))
