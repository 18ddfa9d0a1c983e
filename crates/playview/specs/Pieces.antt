-- How many bytes a look for more of a log gives.
use Rattle.std.specs.Prelude.{ℕ, ◌<◌, ◌≤◌}
use Rattle.playview.specs.declared.input.Piece.{Piece}
use Rattle.playview.specs.declared.input.Piece.TheVariants as piece
use Rattle.play_viewer.specs.declared.desk.DeskStep.{DeskStep}
use Rattle.play_viewer.specs.declared.desk.DeskStep.TheVariants as desk

-- a piece has at least one byte, and no more than there is room for
abbrev pub IsWithin : ℕ → Piece → Type 0
IsWithin room (piece.Bytes count) = (0 < count) × (count ≤ room)
IsWithin room piece.Nothing = Unit {0}
IsWithin room piece.Failed = Unit {0}

-- so does a read of a desk
abbrev pub IsStepWithin : ℕ → DeskStep → Type 0
IsStepWithin room (desk.Read count) = (0 < count) × (count ≤ room)
IsStepWithin room (desk.Asked asked) = Unit {0}
IsStepWithin room desk.Waits = Unit {0}
IsStepWithin room desk.Ended = Unit {0}
IsStepWithin room desk.Failed = Unit {0}
