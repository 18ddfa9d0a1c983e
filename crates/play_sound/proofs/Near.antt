-- How far sums, products and quotients are from 0.
use Rattle.std.proofs.Common.{◌≡◌, ℕ, zero, suc, ◌+◌, ◌*◌, ◌/◌, ◌<◌, ◌≤◌, refl, arith, div-lt_iff_lt-mul}
use Rattle.std.proofs.Math.Nat.{mul-le-mul_left}
use Rattle.std.specs.Prelude.{ℤ, pos, negsuc, neg_ℤ, ◌+ℤ◌, ◌*ℤ◌, ◌≤ℤ◌, nat_abs, int_div, FitsSigned}
use Rattle.std.specs.Int.{w64}
use Rattle.std.proofs.lemmas.Int.{fits_signed_from_abs, ints, unsigned_abs-mul}
use Rattle.play_sound.specs.inner.Ranges.{IsNear}

low : (z : ℤ) (bound : ℕ) → IsNear bound z → neg_ℤ (pos bound) ≤ℤ z
low (pos n) bound near = omega (arith, ints)
low (negsuc n) bound near = omega (arith, ints)

high : (z : ℤ) (bound : ℕ) → IsNear bound z → z ≤ℤ pos bound
high (pos n) bound near = omega (arith, ints)
high (negsuc n) bound near = omega (arith, ints)

between : (z : ℤ) (bound : ℕ) → neg_ℤ (pos bound) ≤ℤ z → z ≤ℤ pos bound → IsNear bound z
between (pos n) bound h k = omega (arith, ints)
between (negsuc n) bound h k = omega (arith, ints)

pub near_sum : (a b : ℤ) (m n : ℕ) → IsNear m a → IsNear n b → IsNear (m + n) (a +ℤ b)
near_sum a b m n h k =
    let la = low a m h in
    let lb = low b n k in
    let ha = high a m h in
    let hb = high b n k in
    between (a +ℤ b) (m + n) (omega (arith, ints)) (omega (arith, ints))

pub near_product : (a : ℤ) (bound n : ℕ) → IsNear bound a → IsNear (bound * n) (a *ℤ pos n)
near_product a bound n near =
    let product : nat_abs (a *ℤ pos n) ≡ nat_abs a * n = unsigned_abs-mul a (pos n) in
    let less : n * nat_abs a ≤ n * bound = mul-le-mul_left n near in
    omega (arith, product, less)

abs_neg : (n : ℕ) → nat_abs (neg_ℤ (pos n)) ≡ n
abs_neg zero = refl
abs_neg (suc n) = refl

abs_quotient : (a : ℤ) (d : ℕ) → nat_abs (int_div a (pos d)) ≡ nat_abs a / d
abs_quotient (pos n) d = refl
abs_quotient (negsuc n) d = abs_neg (suc n / d)

pub near_quotient : (a : ℤ) (bound d : ℕ) → 0 < d → IsNear (bound * d) a → IsNear bound (int_div a (pos d))
near_quotient a bound d some near =
    let less : nat_abs a / d < suc bound = (div-lt_iff_lt-mul {k = d} some).1 (omega (arith, near, some)) in
    omega (arith, abs_quotient a d, less)

-- a number of 62 bits is an i64
pub near_fits : (z : ℤ) (bound : ℕ) → bound < 4611686018427387904 → IsNear bound z → FitsSigned w64 z
near_fits z bound small near = fits_signed_from_abs w64 z (omega (arith, near, small))
