-- Lines of a script that were played, and what was written for them.
use Rattle.std.specs.Prelude.{◌≡◌, ◌≢◌, ℕ, ◌+◌, Bool, true, false, List, [], ◌∷◌, ◌++◌, length, map}
use Rattle.play_outside.specs.SinkState.{SinkState, after_taking}
use Rattle.play_outside.specs.Sink.{Fails}
use Rattle.history_model.specs.scripts.Line.{ScriptLine, Comment, Ticks, Said, Stop, Rejected, meaning}
use Rattle.history_model.specs.scripts.History.{Playout, PlayedLine, ends_at, goes_on}
use Rattle.history_model.specs.scripts.Input.{received}
use Rattle.history_model.specs.scripts.Memory.{HasMemory}
use Rattle.script_player.specs.Shown.{NeedsMemory, Shown, shown_output}

-- a run: its playout, how ticks are shown, and the output before its first line
pub record Run : Type 0 where
  pub playout : Playout
  pub shown : Shown
  pub first : SinkState

-- bytes that were read of an input, and whether the input ended after them
pub record Reading : Type 0 where
  pub bytes : List ℕ
  pub ended : Bool

-- the lines that were received with a reading
abbrev pub lines_of_reading : Reading → List (List ℕ)
lines_of_reading reading = received reading.bytes reading.ended

-- the meanings of lines
abbrev pub meanings : List (List ℕ) → List ScriptLine
meanings lines = map meaning lines

-- the meanings of lines that were played
abbrev pub played_meanings : List PlayedLine → List ScriptLine
played_meanings played = map (λ (one : PlayedLine). one.line) played

-- these lines were played, the run goes on after them, and their output was written. If the run needs memory, none of their replies
-- reports out of memory
pub record IsDone (run : Run) (lines : List (List ℕ)) (state : SinkState) : Type 0 where
  pub played : List PlayedLine
  pub said : played_meanings played ≡ meanings lines
  pub memory : NeedsMemory run.shown → HasMemory run.playout played
  pub runs_on : goes_on run.playout played ≡ true
  pub written : state ≡ after_taking run.first (shown_output run.shown run.playout played)

-- the lines of a reading were played up to the last of them
pub record IsAtLast (playout : Playout) (reading : Reading) : Type 0 where
  pub before : List PlayedLine
  pub last : PlayedLine
  pub said : played_meanings (before ++ last ∷ []) ≡ meanings (lines_of_reading reading)
  pub runs_on : goes_on playout before ≡ true

-- the run ends at the last line, which is the server's own stop or a kill, and its output was written
pub record StopsAt (run : Run) (reading : Reading) (state : SinkState) : Type 0 where
  pub at : IsAtLast run.playout reading
  pub accepted : at.last.line ≢ Rejected
  pub ends : ends_at run.playout at.before at.last at.last.line ≡ true
  pub memory : NeedsMemory run.shown → HasMemory run.playout (at.before ++ at.last ∷ [])
  pub written : state ≡ after_taking run.first (shown_output run.shown run.playout (at.before ++ at.last ∷ []))

-- the last line, which has this number, is rejected, and the output of the lines before it was written. If the run needs memory, none of
-- their replies reports out of memory
pub record RejectsAt (run : Run) (reading : Reading) (number : ℕ) (state : SinkState) : Type 0 where
  pub at : IsAtLast run.playout reading
  pub rejected : at.last.line ≡ Rejected
  pub place : number ≡ length at.before + 1
  pub memory : NeedsMemory run.shown → HasMemory run.playout at.before
  pub written : state ≡ after_taking run.first (shown_output run.shown run.playout at.before)

-- a write of the output of the lines failed, at the last of them, and nothing was written after it
pub record FailsAt (run : Run) (reading : Reading) (state : SinkState) : Type 0 where
  pub at : IsAtLast run.playout reading
  pub accepted : at.last.line ≢ Rejected
  pub written : Fails (shown_output run.shown run.playout (at.before ++ at.last ∷ [])) run.first state

-- whether a line is valid in a script
abbrev pub is_accepted : ScriptLine → Bool
is_accepted Comment = true
is_accepted (Ticks count) = true
is_accepted (Said tag text) = true
is_accepted Stop = true
is_accepted Rejected = false
