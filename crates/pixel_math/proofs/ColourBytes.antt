-- Colour bytes in their straight form, and multiplied again.
use Rattle.std.proofs.Common.{◌≡◌, ℕ, zero, suc, ◌+◌, ◌*◌, ◌/◌, ◌<◌, ◌≤◌, refl, arith, div-lt_iff_lt-mul, div-mul-le_self}
use Rattle.std.proofs.Math.Dec.{eqb-suc-zero}
use Rattle.std.proofs.Math.Nat.{lt-div-mul-add}
use Rattle.pixel_math.specs.Pixel.{scaled, straight}

-- the straight form of a colour byte, if the alpha is not 0
straight-some : (colour a : ℕ) → straight colour (suc a) ≡ (colour * 255 + suc a / 2) / suc a
straight-some colour a = rw (eqb-suc-zero a) refl

-- the straight form of a colour byte is a byte
pub straight-lt : (colour alpha : ℕ) → colour ≤ alpha → straight colour alpha < 256
straight-lt colour zero le = omega arith
straight-lt colour (suc a) le = rw (straight-some colour a) ((div-lt_iff_lt-mul {k = suc a} {x = colour * 255 + suc a / 2} {y = 256} (omega arith)).1 (omega (arith, le)))

-- the straight form of a colour byte gives it again when it is multiplied
pub scaled-straight : (colour alpha : ℕ) → colour ≤ alpha → alpha < 256 → scaled (straight colour alpha) alpha ≡ colour
scaled-straight colour zero le byte = omega (arith, le)
scaled-straight colour (suc a) le byte =
    let sum = colour * 255 + suc a / 2 in
    let below = div-mul-le_self sum (suc a) in
    let above = lt-div-mul-add {a = sum} {b = suc a} (omega arith) in
    rw (straight-some colour a) (omega (arith, below, above, le, byte))
