-- What the formulas keep: no colour byte above its alpha.
use Rattle.std.proofs.Common.{ℕ, ◌+◌, ◌-◌, ◌*◌, ◌<◌, ◌≤◌, arith, mul-le-mul_right}
use Rattle.pixel_math.specs.Pixel.{PixelView, scaled}
use Rattle.pixel_math.specs.Arithmetic.{over, over_byte, fade, fade_byte, key, mix}
use Rattle.pixel_math.proofs.Bytes.{div-le-div, mix_byte-le}
use Rattle.lane_blend.specs.Rows.{IsLowered}

over_byte-le : (s t d e a : ℕ) → s ≤ t → d ≤ e → over_byte s d a ≤ over_byte t e a
over_byte-le s t d e a upper lower =
    omega (arith, div-le-div (d * (255 - a) + 127) (e * (255 - a) + 127) 255 (omega arith) (omega (arith, mul-le-mul_right (255 - a) lower)))

fade_byte-le : (v w opacity : ℕ) → v ≤ w → fade_byte v opacity ≤ fade_byte w opacity
fade_byte-le v w opacity le =
    div-le-div (v * opacity + 500000) (w * opacity + 500000) 1000000 (omega arith) (omega (arith, mul-le-mul_right opacity le))

scaled-le : (v w by : ℕ) → v ≤ w → scaled v by ≤ scaled w by
scaled-le v w by le = div-le-div (v * by + 127) (w * by + 127) 255 (omega arith) (omega (arith, mul-le-mul_right by le))

pub IsLowered-over : (s d : PixelView) → IsLowered s → IsLowered d → IsLowered (over s d)
IsLowered-over s d upper lower = record {
  blue = over_byte-le s.b s.a d.b d.a s.a upper.blue lower.blue;
  green = over_byte-le s.g s.a d.g d.a s.a upper.green lower.green;
  red = over_byte-le s.r s.a d.r d.a s.a upper.red lower.red;
}

pub IsLowered-fade : (p : PixelView) (opacity : ℕ) → IsLowered p → IsLowered (fade p opacity)
IsLowered-fade p opacity h = record {
  blue = fade_byte-le p.b p.a opacity h.blue;
  green = fade_byte-le p.g p.a opacity h.green;
  red = fade_byte-le p.r p.a opacity h.red;
}

pub IsLowered-key : (p : PixelView) (k : ℕ) → IsLowered p → IsLowered (key p k)
IsLowered-key p k h = record {
  blue = scaled-le p.b p.a k h.blue;
  green = scaled-le p.g p.a k h.green;
  red = scaled-le p.r p.a k h.red;
}

pub IsLowered-mix : (old new : PixelView) (j d : ℕ) → j < d → IsLowered old → IsLowered new → IsLowered (mix old new j d)
IsLowered-mix old new j d lt before after = record {
  blue = mix_byte-le old.b old.a new.b new.a j d (omega arith) before.blue after.blue;
  green = mix_byte-le old.g old.a new.g new.a j d (omega arith) before.green after.green;
  red = mix_byte-le old.r old.a new.r new.a j d (omega arith) before.red after.red;
}
