-- How far samples are from silence.
use Rattle.std.specs.Prelude.{ℕ, ◌≤◌, ℤ, nat_abs}

-- a number that is at most `bound` from 0
abbrev pub IsNear : ℕ → ℤ → Type 0
IsNear bound z = nat_abs z ≤ bound
