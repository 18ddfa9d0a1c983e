-- The part of its way that a tween has gone, in the arithmetic of 128 bits.
use Rattle.std.proofs.Common.{◌≡◌, ℕ, ◌*◌, ◌^◌, ◌<◌, ◌≤◌, ℤ, pos, ◌+ℤ◌, ◌-ℤ◌, ◌*ℤ◌, FitsSigned, to_z, of_z, w64, int_div, arith, subst, sym, ◌∙◌}
use mir.Syntax.{w128}
use Rattle.std.proofs.lemmas.Nat.{mul-lt}
use Rattle.play_types.specs.declared.transition.Curve.{Curve}
use Rattle.play_types.specs.declared.transition.Curve.TheVariants.{Linear, EaseInQuad, EaseOutQuad, EaseInCubic, EaseOutCubic}
use Rattle.std.specs.Int.RustNames.{unsigned_abs}
use Rattle.std.proofs.lemmas.Int.{ints, clamps, fits_signed_mul, quot_fits, quot_is, to_z-of_z, to_z_pos}
use Rattle.play_types.specs.Curve.{IsBetween, whole}
use Rattle.play_types.specs.Setting.{IsWide}
use Rattle.play_types.proofs.Tweens.{IsBetween-part}

-- a whole way is below 2 ^ 96
pub whole_short : (curve : Curve) (d : ℕ) → d < 2 ^ 32 → whole curve d < 2 ^ 96
whole_short Linear d h = omega (arith, h)
whole_short EaseInQuad d h = omega (arith, mul-lt d d (2 ^ 32) (2 ^ 32) h h)
whole_short EaseOutQuad d h = omega (arith, mul-lt d d (2 ^ 32) (2 ^ 32) h h)
whole_short EaseInCubic d h = mul-lt (d * d) d (2 ^ 64) (2 ^ 32) (omega (arith, mul-lt d d (2 ^ 32) (2 ^ 32) h h)) h
whole_short EaseOutCubic d h = mul-lt (d * d) d (2 ^ 64) (2 ^ 32) (omega (arith, mul-lt d d (2 ^ 32) (2 ^ 32) h h)) h

-- the difference of two numbers within -1000 to 1000
abbrev pub IsWay : ℤ → Type 0
IsWay way = unsigned_abs way ≤ 2000000000

-- its product with a number of parts fits 128 bits
pub times_fits : (way : ℤ) (p : ℕ) → IsWay way → p < 2 ^ 96 → FitsSigned w128 (way *ℤ pos p)
times_fits way p short few = fits_signed_mul w128 way (pos p) 2000000000 (2 ^ 96) short (omega arith) (omega arith)

pub way_fits : (way : ℤ) → IsWay way → FitsSigned w128 way
way_fits way short = omega (arith, ints)

-- the product, as it is computed
pub times_is : (way : ℤ) (p : ℕ) → IsWay way → p < 2 ^ 96 →
    to_z w128 (of_z w128 (to_z w128 (of_z w128 way) *ℤ to_z w128 p)) ≡ way *ℤ pos p
times_is way p short few =
    rw (to_z-of_z w128 way (way_fits way short), to_z_pos w128 p (omega arith), to_z-of_z w128 (way *ℤ pos p) (times_fits way p short few))

-- the quotient, as it is computed, is the quotient of the integers
abbrev pub computed_part : ℤ → ℕ → ℕ → ℤ
computed_part way p q =
    to_z w128 (of_z w128 (int_div (to_z w128 (of_z w128 (to_z w128 (of_z w128 way) *ℤ to_z w128 p))) (to_z w128 q)))

pub quotient_fits : (way : ℤ) (p q : ℕ) → IsWay way → p < q → q < 2 ^ 96 → FitsSigned w128 (int_div (way *ℤ pos p) (pos q))
quotient_fits way p q short less few = quot_fits w128 (way *ℤ pos p) (pos q) (times_fits way p short (omega arith)) (omega (arith, ints))

pub part_is : (way : ℤ) (p q : ℕ) → IsWay way → p < q → q < 2 ^ 96 → computed_part way p q ≡ int_div (way *ℤ pos p) (pos q)
part_is way p q short less few =
    rw (times_is way p short (omega arith), to_z_pos w128 q (omega arith), to_z-of_z w128 (int_div (way *ℤ pos p) (pos q)) (quotient_fits way p q short less few))

-- the divisor is above 0, and the quotient fits
pub divides : (way : ℤ) (p q : ℕ) → IsWay way → p < q → q < 2 ^ 96 →
    FitsSigned w128 (int_div (to_z w128 (of_z w128 (to_z w128 (of_z w128 way) *ℤ to_z w128 p))) (to_z w128 q))
divides way p q short less few =
    rw (times_is way p short (omega arith), to_z_pos w128 q (omega arith)) (quotient_fits way p q short less few)

-- the quotient is no longer than the way, so it fits 64 bits
pub part_short : (way : ℤ) (p q : ℕ) → IsWay way → p < q → q < 2 ^ 96 → FitsSigned w64 (computed_part way p q)
part_short way p q short less few =
    let between : IsBetween (pos 0) (pos 0 +ℤ way) (pos 0 +ℤ int_div (way *ℤ pos p) (pos q)) = IsBetween-part (pos 0) way p q less in
    rw (part_is way p q short less few) (omega (arith, ints, clamps, between.0, between.1))

-- the value on its way, as it is computed
abbrev pub computed : ℤ → ℤ → ℕ → ℕ → ℤ
computed from way p q = to_z w64 (of_z w64 from) +ℤ to_z w64 (of_z w64 (computed_part way p q))

pub wide_fits : (z : ℤ) → IsWide z → FitsSigned w64 z
wide_fits z wide = omega (arith, ints)

pub computed_is : (from way : ℤ) (p q : ℕ) → IsWide from → IsWay way → p < q → q < 2 ^ 96 →
    computed from way p q ≡ from +ℤ int_div (way *ℤ pos p) (pos q)
computed_is from way p q wide short less few =
    rw (to_z-of_z w64 from (wide_fits from wide), to_z-of_z w64 (computed_part way p q) (part_short way p q short less few), part_is way p q short less few)

pub computed_fits : (from to : ℤ) (p q : ℕ) → IsWide from → IsWide to → p < q → q < 2 ^ 96 → FitsSigned w64 (computed from (to -ℤ from) p q)
computed_fits from to p q wide other less few =
    let short : IsWay (to -ℤ from) = omega (arith, ints) in
    let between : IsBetween from (from +ℤ (to -ℤ from)) (from +ℤ int_div ((to -ℤ from) *ℤ pos p) (pos q)) = IsBetween-part from (to -ℤ from) p q less in
    rw (computed_is from (to -ℤ from) p q wide short less few) (omega (arith, ints, clamps, between.0, between.1, wide, other))
