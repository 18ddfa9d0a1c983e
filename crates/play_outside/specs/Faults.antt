-- Counts of faults.
use Rattle.std.specs.Prelude.{ℕ, ◌+◌, ◌-◌, ◌^◌, ◌≤◌, min, max}

-- a count after one more fault: from the greatest u64 on it stays as it is
abbrev pub one_more : ℕ → ℕ
one_more count = max count (min (count + 1) (2 ^ 64 - 1))

-- a count rose: it is greater than before, or it was at the greatest u64 already and has not fallen
abbrev pub Rose : ℕ → ℕ → Type 0
Rose before after = one_more before ≤ after
