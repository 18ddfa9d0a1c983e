-- A whole in parts that differ by at most one.
use Rattle.std.specs.Prelude.{ℕ, ◌+◌, ◌*◌, ◌≤◌}

-- `bands` bands can be split into `groups` groups of `each` bands or one more
abbrev pub AreShared : ℕ → ℕ → ℕ → Type 0
AreShared bands groups each = (groups * each ≤ bands) × (bands ≤ groups * each + groups)
