-- A quotient of natural numbers.
use Rattle.std.proofs.Common.{◌+◌, ◌*◌, ◌/◌, ◌<◌, ◌≤◌, ℕ, arith, div-mul-le_self}
use Rattle.std.proofs.Math.Nat.{lt-div-mul-add}

-- the quotient times the divisor is at most the dividend
pub quotient_fits : (n m : ℕ) → n / m * m ≤ n
quotient_fits n m = div-mul-le_self n m

-- the quotient plus one, times the divisor, is above the dividend
pub one_more_is_beyond : (n m : ℕ) → 0 < m → n < (n / m + 1) * m
one_more_is_beyond n m some = omega (arith, lt-div-mul-add {a = n} {b = m} some)
