-- A whole run over an input, without the line about its fault.
use Rattle.std.specs.Prelude.{◌≡◌, ℕ, ◌<◌, ◌≤◌, true, false, List, ◌++◌, length, take}
use Rattle.play_outside.specs.Faults.{Rose}
use Rattle.play_outside.specs.SourceState.{SourceState}
use Rattle.play_outside.specs.Source.{Gives, IsAtEnd}
use Rattle.play_outside.specs.SinkState.{SinkState}
use Rattle.history_model.specs.declared.limits.TheConstants.{MAX_INPUT_BYTES}
use Rattle.history_model.specs.scripts.History.{Playout}
use Rattle.history_model.specs.scripts.Input.{ended_lines, received}
use Rattle.script_player.specs.declared.ending.Ending.{Ending}
use Rattle.script_player.specs.declared.ending.Ending.TheVariants.{Finished, Stopped, BadLine, TooLong, ReadFault, WriteFault, Memory}
use Rattle.script_player.specs.Script.{Run, Reading, IsDone, StopsAt, RejectsAt, FailsAt}
use Rattle.script_player.specs.Shown.{Shown}

-- the input and the output of a run
pub record Streams : Type 0 where
  pub input : SourceState
  pub out : SinkState

-- these bytes are all of the input, at most `most`, and no read failed
pub record IsWholeInput (most : ℕ) (bytes : List ℕ) (before after : Streams) : Type 0 where
  pub at_end : IsAtEnd after.input
  pub quiet : after.input.faults ≡ before.input.faults
  pub few : length bytes ≤ most

-- a part of a reading from its first byte on, within the bytes that an input may have
pub record IsPrefix (whole part : Reading) : Type 0 where
  pub rest : List ℕ
  pub parts : take MAX_INPUT_BYTES whole.bytes ≡ part.bytes ++ rest
  pub at_end : part.ended ≡ true → (whole.ended ≡ true) × (part.bytes ≡ whole.bytes)

-- how a run ends after a reading. At ReadFault the output is exactly that of the lines received in the bytes read before. Whether a
-- read fails is not known before it is made, so this is how a run has to behave at every read
abbrev pub EndsAs : Run → Ending → Reading → SinkState → Type 0
EndsAs run Finished reading state =
    (reading.ended ≡ true) × (length reading.bytes ≤ MAX_INPUT_BYTES) × IsDone run (received reading.bytes true) state
EndsAs run Stopped reading state = (part : Reading) × IsPrefix reading part × StopsAt run part state
EndsAs run (BadLine number) reading state = (part : Reading) × IsPrefix reading part × RejectsAt run part number state
EndsAs run TooLong reading state =
    (MAX_INPUT_BYTES < length reading.bytes) × IsDone run (received (take MAX_INPUT_BYTES reading.bytes) false) state
EndsAs run ReadFault reading state =
    (reading.ended ≡ false) × (length reading.bytes ≤ MAX_INPUT_BYTES) × IsDone run (received reading.bytes false) state
EndsAs run WriteFault reading state = (part : Reading) × IsPrefix reading part × FailsAt run part state
EndsAs run Memory reading state = (part : Reading) × IsPrefix reading part × IsDone run (ended_lines part.bytes) state

-- the count of faults of the input rose if a read failed, and is else as before
abbrev pub FaultsOf : Ending → ℕ → ℕ → Type 0
FaultsOf ReadFault before after = Rose before after
FaultsOf Finished before after = after ≡ before
FaultsOf Stopped before after = after ≡ before
FaultsOf (BadLine number) before after = after ≡ before
FaultsOf TooLong before after = after ≡ before
FaultsOf WriteFault before after = after ≡ before
FaultsOf Memory before after = after ≡ before

-- what was read of the input, and how the run ended after it
pub record RunsScript (shown : Shown) (playout : Playout) (ending : Ending) (before after : Streams) : Type 0 where
  pub reading : Reading
  pub gives : Gives reading.bytes before.input.left after.input.left
  pub faults : FaultsOf ending before.input.faults after.input.faults
  pub at_end : reading.ended ≡ true → IsAtEnd after.input
  pub ends : EndsAs (record { playout = playout; shown = shown; first = before.out }) ending reading after.out
