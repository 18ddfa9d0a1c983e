-- Calls that are held.
use Rattle.std.specs.Prelude.{ℕ, Bool, false, ◌==◌, Option, Some, None}
use Rattle.play_outside.specs.declared.held.hold.FlaggedCall.{FlaggedCall}

-- whether something is planned for the call of this number
abbrev pub is_call : ℕ → Option FlaggedCall → Bool
is_call number None = false
is_call number (Some at) = at.call == number
