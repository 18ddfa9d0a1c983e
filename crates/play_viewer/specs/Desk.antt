-- What the calls of a desk do.
use Rattle.std.specs.Prelude.{◌≡◌, ℕ, ◌≤◌, List, length, take, option_map, string_bytes}
use Rattle.play_outside.specs.declared.folder.FileFault.{FileFault}
use Rattle.play_outside.specs.declared.folder.FileFault.TheVariants as fault
use Rattle.play_outside.specs.declared.sink.WriteStep.{WriteStep}
use Rattle.play_outside.specs.declared.sink.WriteStep.TheVariants as write
use Rattle.play_viewer.specs.Moves.{DeskState, Took, Wanted, Waited, Ended, Said, after_fault, after_move}
use Rattle.play_viewer.specs.declared.desk.DeskStep.{DeskStep}
use Rattle.play_viewer.specs.declared.desk.DeskStep.TheVariants as step

-- the desk was not opened: the call failed, or memory ran out and nothing changed
abbrev pub IsNotOpened : FileFault → DeskState → DeskState → Type 0
IsNotOpened fault.Failed before after = after ≡ after_fault before
IsNotOpened fault.OutOfMemory before after = after ≡ before

-- what came next: these many bytes of the log, at the beginning of the room; a request; nothing for now; the end; or a fault
abbrev pub ComesNext : DeskStep → List ℕ → DeskState → DeskState → Type 0
ComesNext (step.Read count) room before after = (count ≤ length room) × (after ≡ after_move (Took (take count room)) before)
ComesNext (step.Asked asked) room before after = after ≡ after_move (Wanted (string_bytes asked.path) (option_map string_bytes asked.query)) before
ComesNext step.Waits room before after = after ≡ after_move Waited before
ComesNext step.Ended room before after = after ≡ after_move Ended before
ComesNext step.Failed room before after = after ≡ after_fault before

-- the whole line was printed, or the desk failed and recorded nothing of it
abbrev pub Says : WriteStep → List ℕ → DeskState → DeskState → Type 0
Says (write.Took count) line before after = (count ≡ length line) × (after ≡ after_move (Said line) before)
Says write.Failed line before after = after ≡ after_fault before
