-- The reading of a whole input.
use Rattle.std.specs.Prelude.{◌≡◌, ℕ, ◌+◌, ◌≤◌, Result, Ok, Err, List, length}
use Rattle.std.specs.Global.{Vec}
use Rattle.play_outside.specs.Faults.{Rose}
use Rattle.play_outside.specs.Source.{Gives, IsAtEnd}
use Rattle.play_outside.specs.SourceState.{SourceState}
use Rattle.server_setup.specs.declared.fault.RunFault.{RunFault}
use Rattle.server_setup.specs.declared.fault.RunFault.TheVariants as faults

-- the reading ended with these bytes: at the end of the input, with at most `most` of them; or with `most + 1` of them, which are too
-- many; or at a failed read; or without memory
abbrev pub ReadEnds : ℕ → Result (Vec ℕ) RunFault → List ℕ → SourceState → SourceState → Type 0
ReadEnds most (Ok held) bytes before after =
    (held.items ≡ bytes) × IsAtEnd after × (after.faults ≡ before.faults) × (length bytes ≤ most)
ReadEnds most (Err faults.InputTooLong) bytes before after = (length bytes ≡ most + 1) × (after.faults ≡ before.faults)
ReadEnds most (Err faults.Device) bytes before after = (length bytes ≤ most) × Rose before.faults after.faults
ReadEnds most (Err faults.OutOfMemory) bytes before after = (length bytes ≤ most) × (after.faults ≡ before.faults)
ReadEnds most (Err faults.Usage) bytes before after = ⊥
ReadEnds most (Err faults.ConfigText) bytes before after = ⊥
ReadEnds most (Err (faults.ConfigKey key)) bytes before after = ⊥
ReadEnds most (Err (faults.BadLine number)) bytes before after = ⊥
ReadEnds most (Err (faults.Plan number)) bytes before after = ⊥
ReadEnds most (Err faults.PlanEnd) bytes before after = ⊥
ReadEnds most (Err (faults.Record name)) bytes before after = ⊥
ReadEnds most (Err (faults.Resume number)) bytes before after = ⊥
ReadEnds most (Err (faults.Clip fault)) bytes before after = ⊥
ReadEnds most (Err (faults.MediaTwice name)) bytes before after = ⊥
ReadEnds most (Err (faults.MediaTotal sum)) bytes before after = ⊥

-- what was read of an input, and how that ended
pub record ReadsInput (most : ℕ) (result : Result (Vec ℕ) RunFault) (before after : SourceState) : Type 0 where
  pub bytes : List ℕ
  pub gives : Gives bytes before.left after.left
  pub ends : ReadEnds most result bytes before after
