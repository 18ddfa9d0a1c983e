-- The course of a tween.
use Rattle.std.proofs.Common.{◌≡◌, ℕ, zero, suc, ◌+◌, ◌-◌, ◌*◌, ◌/◌, ◌<◌, ◌≤◌, inl, inr, ℤ, pos, negsuc, ◌+ℤ◌, ◌-ℤ◌, ◌*ℤ◌, neg_ℤ, int_div, refl, arith}
use Rattle.std.proofs.Math.Nat.{zero-div, div-le_of_le-mul, div-mul-le_self, mul_comm}
use Rattle.std.proofs.lemmas.Bool.{le-leb}
use Rattle.std.proofs.lemmas.Bool.Decides.{leb_tells}
use Rattle.std.proofs.lemmas.Int.{ints, clamps}
use Rattle.std.proofs.lemmas.Nat.{le-div, mul-le, mul-lt}
use Rattle.play_types.specs.declared.transition.Curve.{Curve}
use Rattle.play_types.specs.declared.transition.Curve.TheVariants.{Linear, EaseInQuad, EaseOutQuad, EaseInCubic, EaseOutCubic}
use Rattle.play_types.specs.Curve.{gone, whole, part_way, along, IsBetween}

-- from its last tick on a tween has its last value
pub along-end : (curve : Curve) (from to : ℤ) (j d : ℕ) → d ≤ j → along curve from to j d ≡ to
along-end curve from to j d h = rw (le-leb d j h)

-- before its last tick a tween has gone a part of its way
pub along-part : (curve : Curve) (from to : ℤ) (j d : ℕ) → j < d → along curve from to j d ≡ part_way from to (gone curve j d) (whole curve d)
along-part curve from to j d h =
    elim (leb_tells d j) [ inl w ↦ absurd (omega (arith, w.1)) | inr w ↦ rw w.0 ]

-- before its first tick nothing of the way is gone
gone-none : (curve : Curve) (d : ℕ) → gone curve 0 d ≡ 0
gone-none Linear d = refl
gone-none EaseInQuad d = refl
gone-none EaseOutQuad d = omega arith
gone-none EaseInCubic d = refl
gone-none EaseOutCubic d =
    let e : d - 0 ≡ d = omega arith in
    rw e (omega arith)

no_way : (z : ℤ) → z *ℤ pos 0 ≡ pos 0
no_way (pos n) = omega (arith, ints)
no_way (negsuc n) = omega (arith, ints)

-- before its first tick a tween has its first value
pub along-start : (curve : Curve) (from to : ℤ) (d : ℕ) → 0 < d → along curve from to 0 d ≡ from
along-start curve from to d h =
    rw (along-part curve from to 0 d h, gone-none curve d, no_way (to -ℤ from), zero-div (whole curve d)) (omega (arith, ints))

-- what is gone with EaseOutQuad, and the square of what is left, add up to the square of the whole
squares : (j r : ℕ) → (j + r) * (j + r) ≡ j * (2 * (j + r) - j) + r * r
squares j r =
    let twice : 2 * (j + r) - j ≡ j + 2 * r = omega arith in
    rw twice (grind arith)

square_left : (j d : ℕ) → j < d → d * d ≡ j * (2 * d - j) + (d - j) * (d - j)
square_left j d h =
    let e : d ≡ j + (d - j) = omega arith in
    rw (← e) at (squares j (d - j))

cube_below : (j d : ℕ) → j < d → j * j * j < d * d * d
cube_below j d h = mul-lt (j * j) j (d * d) d (mul-lt j j d d h h) h

cube_within : (i j : ℕ) → i ≤ j → i * i * i ≤ j * j * j
cube_within i j h = mul-le (i * i) i (j * j) j (mul-le i i j j h h) h

square_some : (r : ℕ) → 0 < r → 0 < r * r
square_some r h = omega (arith, mul-le 1 1 r r h h)

cube_some : (r : ℕ) → 0 < r → 0 < r * r * r
cube_some r h = omega (arith, mul-le 1 1 (r * r) r (square_some r h) h)

-- before the last tick less than the whole way is gone
pub gone-below : (curve : Curve) (j d : ℕ) → j < d → gone curve j d < whole curve d
gone-below Linear j d h = h
gone-below EaseInQuad j d h = mul-lt j j d d h h
gone-below EaseOutQuad j d h = omega (arith, square_left j d h, square_some (d - j) (omega arith))
gone-below EaseInCubic j d h = cube_below j d h
gone-below EaseOutCubic j d h = omega (arith, cube_some (d - j) (omega arith), cube_below 0 d (omega arith))

-- at a later tick no less of the way is gone
gone-later : (curve : Curve) (i j d : ℕ) → i ≤ j → j < d → gone curve i d ≤ gone curve j d
gone-later Linear i j d h less = h
gone-later EaseInQuad i j d h less = mul-le i i j j h h
gone-later EaseOutQuad i j d h less =
    omega (arith, square_left i d (omega arith), square_left j d less, mul-le (d - j) (d - j) (d - i) (d - i) (omega arith) (omega arith))
gone-later EaseInCubic i j d h less = cube_within i j h
gone-later EaseOutCubic i j d h less = omega (arith, cube_within (d - j) (d - i) (omega arith))

part_at_most : (n p q : ℕ) → p < q → n * p / q ≤ n
part_at_most n p q h = div-le_of_le-mul q (omega (arith, mul-le n p n q (omega arith) (omega arith), mul_comm n q))

part_grows : (n o p q : ℕ) → o ≤ p → p < q → n * o / q ≤ n * p / q
part_grows n o p q h less =
    le-div (n * o / q) (n * p) q (omega arith) (omega (arith, div-mul-le_self (n * o) q, mul-le n o n p (omega arith) h))

int_div-neg_ℤ : (k d : ℕ) → int_div (neg_ℤ (pos k)) (pos d) ≡ neg_ℤ (pos (k / d))
int_div-neg_ℤ zero d = rw (zero-div d)
int_div-neg_ℤ (suc k) d = refl

-- the part of a way lies on it
pub IsBetween-part : (from way : ℤ) (p q : ℕ) → p < q → IsBetween from (from +ℤ way) (from +ℤ int_div (way *ℤ pos p) (pos q))
IsBetween-part from (pos n) p q h =
    let part = part_at_most n p q h in (omega (arith, ints, clamps), omega (arith, ints, clamps))
IsBetween-part from (negsuc n) p q h =
    let part = part_at_most (suc n) p q h in
    rw (int_div-neg_ℤ (suc n * p) q) (omega (arith, ints, clamps), omega (arith, ints, clamps))

-- a greater part lies between a less one and the end of the way
IsBetween-parts : (from way : ℤ) (o p q : ℕ) → o ≤ p → p < q →
    IsBetween (from +ℤ int_div (way *ℤ pos o) (pos q)) (from +ℤ way) (from +ℤ int_div (way *ℤ pos p) (pos q))
IsBetween-parts from (pos n) o p q h less =
    let part = part_at_most n p q less in
    let grows = part_grows n o p q h less in
    (omega (arith, ints, clamps), omega (arith, ints, clamps))
IsBetween-parts from (negsuc n) o p q h less =
    let part = part_at_most (suc n) p q less in
    let grows = part_grows (suc n) o p q h less in
    rw (int_div-neg_ℤ (suc n * o) q, int_div-neg_ℤ (suc n * p) q) (omega (arith, ints, clamps), omega (arith, ints, clamps))

whole_way : (from to : ℤ) → from +ℤ (to -ℤ from) ≡ to
whole_way from to = omega (arith, ints)

IsBetween-end : (from to : ℤ) → IsBetween from to to
IsBetween-end from to = (omega (arith, ints, clamps), omega (arith, ints, clamps))

-- at every tick a tween lies between its two ends
pub IsBetween-along : (curve : Curve) (from to : ℤ) (j d : ℕ) → IsBetween from to (along curve from to j d)
IsBetween-along curve from to j d =
    elim (leb_tells d j) [
      | inl w ↦ rw (along-end curve from to j d w.1) (IsBetween-end from to)
      | inr w ↦
          rw (along-part curve from to j d w.1)
          (rw (whole_way from to) at (IsBetween-part from (to -ℤ from) (gone curve j d) (whole curve d) (gone-below curve j d w.1)))
    ]

-- a tween never turns back
pub IsBetween-later : (curve : Curve) (from to : ℤ) (i j d : ℕ) → i ≤ j → IsBetween (along curve from to i d) to (along curve from to j d)
IsBetween-later curve from to i j d h =
    elim (leb_tells d j) [
      | inl w ↦ rw (along-end curve from to j d w.1) (IsBetween-end (along curve from to i d) to)
      | inr w ↦
          rw (along-part curve from to i d (omega (arith, w.1)), along-part curve from to j d w.1)
          (rw (whole_way from to) at
          (IsBetween-parts from (to -ℤ from) (gone curve i d) (gone curve j d) (whole curve d) (gone-later curve i j d h w.1) (gone-below curve j d w.1)))
    ]
