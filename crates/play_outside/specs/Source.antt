-- What a read does.
use Rattle.std.specs.Prelude.{◌≡◌, ℕ, ◌<◌, ◌≤◌, Option, Some, None, IfSome, List, [], ◌++◌, length, take, min, if◌then◌else◌, ◌==◌}
use Rattle.play_outside.specs.Faults.{Rose}
use Rattle.play_outside.specs.SourceState.{SourceState}
use Rattle.play_outside.specs.declared.source.ReadStep.{ReadStep}
use Rattle.play_outside.specs.declared.source.ReadStep.TheVariants.{Got, End, Failed}

-- what was left is these bytes, then what is left now, if the source exposes it
abbrev pub Gives : List ℕ → Option (List ℕ) → Option (List ℕ) → Type 0
Gives bytes before None = before ≡ None
Gives bytes before (Some rest) = before ≡ Some (bytes ++ rest)

-- the bytes were read from the source, without a fault
pub record Consumes (bytes : List ℕ) (before after : SourceState) : Type 0 where
  pub gives : Gives bytes before.left after.left
  pub faults : after.faults ≡ before.faults

-- nothing is left, if the source exposes this
abbrev pub IsAtEnd : SourceState → Type 0
IsAtEnd state = IfSome state.left (λ rest. rest ≡ [])

-- a read gave the bytes at the beginning of the buffer, or found the end, or failed and gave nothing
abbrev pub Reads : ReadStep → List ℕ → SourceState → SourceState → Type 0
Reads (Got count) buffer before after = (0 < count) × (count ≤ length buffer) × Consumes (take count buffer) before after
Reads End buffer before after = IsAtEnd before × (after ≡ before)
Reads Failed buffer before after = (after.left ≡ before.left) × Rose before.faults after.faults

-- a read that gives all that is left, or as much of it as the buffer takes
abbrev pub whole_read : List ℕ → ℕ → ReadStep
whole_read left room = if length left == 0 then End else Got (min (length left) room)
