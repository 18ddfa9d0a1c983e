-- The bytes of a script that were taken, and the state after them.
use Rattle.std.specs.Prelude.{◌≡◌, ℕ, ◌+◌, ◌<◌, true, false, Result, Ok, Err, List, [], ◌∷◌, ◌++◌, length}
use Rattle.std.specs.List.{list_any}
use Rattle.amcp_text.specs.Lines.{is_line_end}
use Rattle.play_outside.specs.SinkState.{SinkState}
use Rattle.play_outside.specs.Source.{Gives, IsAtEnd}
use Rattle.play_outside.specs.SourceState.{SourceState}
use Rattle.history_model.specs.declared.limits.TheConstants.{MAX_INPUT_BYTES, MAX_SCRIPT_LINE_BYTES}
use Rattle.history_model.specs.scripts.Input.{ended_lines, unended}
use Rattle.script_player.specs.declared.ending.Ending.{Ending}
use Rattle.script_player.specs.declared.ending.Ending.TheVariants.{Finished, Stopped, BadLine, TooLong, ReadFault, WriteFault, Memory}
use Rattle.script_player.specs.declared.player.Player.{Player}
use Rattle.script_player.specs.declared.ending.Halt.{Halt}
use Rattle.script_player.specs.declared.ending.Halt.TheVariants as halt
use Rattle.script_player.specs.declared.script.Script.{Script}
use Rattle.script_player.specs.Ending.{ending_of}
use Rattle.script_player.specs.Script.{Run, Reading, IsDone, StopsAt, RejectsAt, FailsAt}
use Rattle.script_player.specs.Run.{EndsAs, FaultsOf, IsPrefix, Streams}
use Rattle.script_player.specs.Player.{HasHistory, Represents, playout_in}
use Rattle.script_player.specs.Shown.{Shown}

-- the bytes were taken: their lines are done, and what follows the last of them waits
pub record HasTaken (run : Run) (script : Script) (bytes : List ℕ) (state : SinkState) : Type 0 where
  pub done : IsDone run (ended_lines bytes) state
  pub waiting : script.waiting.items ≡ unended bytes
  pub one_line : list_any is_line_end (unended bytes) ≡ false
  pub short : length (unended bytes) < MAX_SCRIPT_LINE_BYTES + 2
  pub count : script.lines ≡ length (ended_lines bytes)
  pub player : Represents run.shown run.playout script.player done.played

-- the run stops at the last line of a reading, which is the server's own stop or a kill, and the player has the history of the lines
pub record StopsWith (run : Run) (player : Player) (reading : Reading) (state : SinkState) : Type 0 where
  pub stops : StopsAt run reading state
  pub history : HasHistory run.playout (stops.at.before ++ stops.at.last ∷ []) player

-- the run stops at the last line of a reading, before which the script took all lines; out of memory, the lines of the reading that ended
-- are done
abbrev pub HaltsAt : Run → Halt → Script → Reading → SinkState → Type 0
HaltsAt run halt.Rejected script reading state = RejectsAt run reading (script.lines + 1) state
HaltsAt run halt.Stop script reading state = StopsWith run script.player reading state
HaltsAt run halt.Write script reading state = FailsAt run reading state
HaltsAt run halt.Memory script reading state = IsDone run (ended_lines reading.bytes) state

-- all of the bytes were taken, or the run stops within them
abbrev pub TakesBytes : Run → Result (Unit {0}) Halt → Script → List ℕ → SinkState → Type 0
TakesBytes run (Ok done) script bytes state = HasTaken run script bytes state
TakesBytes run (Err reason) script bytes state =
    (part rest : List ℕ) × (bytes ≡ part ++ rest) × HaltsAt run reason script (record { bytes = part; ended = false }) state

-- all of the bytes were taken, or the run ends within them
abbrev pub TakesPiece : Run → Result (Unit {0}) Ending → Script → List ℕ → SinkState → Type 0
TakesPiece run (Ok done) script bytes state = HasTaken run script bytes state
TakesPiece run (Err ending) script bytes state =
    (reason : Halt) × (ending ≡ ending_of reason script.lines) × TakesBytes run (Err reason) script bytes state

-- all lines of a reading were played, and the player has their history
pub record FinishesWith (run : Run) (player : Player) (reading : Reading) (state : SinkState) : Type 0 where
  pub ends : EndsAs run Finished reading state
  pub history : HasHistory run.playout ends.2.played player

-- how a run ends after a reading, and the player that it leaves: if the run ended well it has the history of the lines
abbrev pub EndsWith : Run → Ending → Player → Reading → SinkState → Type 0
EndsWith run Finished player reading state = FinishesWith run player reading state
EndsWith run Stopped player reading state = (part : Reading) × IsPrefix reading part × StopsWith run player part state
EndsWith run (BadLine number) player reading state = EndsAs run (BadLine number) reading state
EndsWith run TooLong player reading state = EndsAs run TooLong reading state
EndsWith run ReadFault player reading state = EndsAs run ReadFault reading state
EndsWith run WriteFault player reading state = EndsAs run WriteFault reading state
EndsWith run Memory player reading state = EndsAs run Memory reading state

-- all of the bytes were taken, and `left` more are allowed; or the run ends within them, which is no fault of the input
abbrev pub ReadsOn : Run → Result ℕ Ending → Script → List ℕ → SinkState → Type 0
ReadsOn run (Ok left) script bytes state = (left + length bytes ≡ MAX_INPUT_BYTES) × HasTaken run script bytes state
ReadsOn run (Err ending) script bytes state =
    EndsWith run ending script.player (record { bytes = bytes; ended = false }) state × ((faults : ℕ) → FaultsOf ending faults faults)

-- the run of a player, with this display of ticks, after this output
abbrev pub run_by : Shown → Player → SinkState → Run
run_by shown player first = record { playout = playout_in player; shown = shown; first = first }

-- what was read of the input, how the run ended after it, and the player that it leaves
pub record RunsPlayer (run : Run) (ending : Ending) (player : Player) (before : SourceState) (after : Streams) : Type 0 where
  pub reading : Reading
  pub gives : Gives reading.bytes before.left after.input.left
  pub faults : FaultsOf ending before.faults after.input.faults
  pub at_end : reading.ended ≡ true → IsAtEnd after.input
  pub ends : EndsWith run ending player reading after.out
