-- What `plan` reads and writes.
use Rattle.std.specs.Prelude.{◌≡◌, ◌⊎◌, ℕ, ◌+◌, ◌≤◌, true, Option, Some, None, Ok, Err, List, [], ◌∷◌, ◌++◌, length}
use Rattle.play_types.specs.History.{ticks}
use Rattle.play_outside.specs.Faults.{Rose}
use Rattle.play_outside.specs.Source.{Gives}
use Rattle.play_outside.specs.SinkState.{SinkState, after_taking}
use Rattle.play_outside.specs.Sink.{Fails}
use Rattle.history_model.specs.scripts.Line.{ScriptLine}
use Rattle.history_model.specs.scripts.History.{Playout, PlayedLine, goes_on, script_events}
use Rattle.history_model.specs.scripts.Output.{script_output}
use Rattle.play_schedule.specs.declared.limits.TheConstants.{MAX_SHEET_BYTES}
use Rattle.play_schedule.specs.declared.sheet.SheetFault.{SheetFault}
use Rattle.play_schedule.specs.declared.sheet.SheetFault.TheVariants as sheet_fault
use Rattle.play_schedule.specs.SheetView.{SheetView}
use Rattle.play_schedule.specs.Sheet.{sheet_of}
use Rattle.play_schedule.specs.Unfolding.{script_of, timed}
use Rattle.server_setup.specs.declared.fault.RunFault.{RunFault}
use Rattle.server_setup.specs.declared.fault.RunFault.TheVariants as faults
use Rattle.script_player.specs.Run.{Streams, IsWholeInput}
use Rattle.script_player.specs.Script.{played_meanings}

-- the bytes are a cue sheet, with `rate` frames a second
pub record IsSheetOf (rate : ℕ) (bytes : List ℕ) (sheet : SheetView) (before after : Streams) : Type 0 where
  pub whole : IsWholeInput MAX_SHEET_BYTES bytes before after
  pub reads : sheet_of rate bytes ≡ Ok sheet

-- the bytes are no cue sheet with `rate` frames a second, for this reason, and nothing was written
pub record IsNoSheet (rate : ℕ) (bytes : List ℕ) (fault : SheetFault) (before after : Streams) : Type 0 where
  pub whole : IsWholeInput MAX_SHEET_BYTES bytes before after
  pub refuses : sheet_of rate bytes ≡ Err fault
  pub unwritten : after.out ≡ before.out

-- a line of the script of a sheet has this moment, and these lines were played before it
pub record ComesAfter (sheet : SheetView) (played earlier : List PlayedLine) (moment : ℕ) : Type 0 where
  pub before : List (ℕ × ScriptLine)
  pub line : ScriptLine
  pub after : List (ℕ × ScriptLine)
  pub later : List PlayedLine
  pub due : timed sheet ≡ before ++ (moment, line) ∷ after
  pub parts : played ≡ earlier ++ later
  pub place : length earlier ≡ length before

-- before each line of a sheet, if the run has not ended, the history has as many ticks as its moment
abbrev pub KeepsMoments : Playout → SheetView → List PlayedLine → Type 0
KeepsMoments playout sheet played =
    (earlier : List PlayedLine) (moment : ℕ) → ComesAfter sheet played earlier moment → goes_on playout earlier ≡ true
    → ticks (script_events playout earlier) ≡ moment

-- the script of a sheet was played, each line at its moment, and its output was written, and nothing else
pub record PlaysSheet (playout : Playout) (sheet : SheetView) (before after : SinkState) : Type 0 where
  pub played : List PlayedLine
  pub said : played_meanings played ≡ script_of sheet
  pub moments : KeepsMoments playout sheet played
  pub written : after ≡ after_taking before (script_output playout played)

-- some first lines of a script were played, and their output was written, and nothing else
pub record PlaysPart (playout : Playout) (script : List ScriptLine) (before after : SinkState) : Type 0 where
  pub played : List PlayedLine
  pub rest : List ScriptLine
  pub said : script ≡ played_meanings played ++ rest
  pub written : after ≡ after_taking before (script_output playout played)

-- a write of the output of a script failed, at the last of these lines, and nothing was written after it
pub record FailsInScript (playout : Playout) (script : List ScriptLine) (before after : SinkState) : Type 0 where
  pub played : List PlayedLine
  pub last : PlayedLine
  pub rest : List ScriptLine
  pub said : script ≡ played_meanings (played ++ last ∷ []) ++ rest
  pub runs_on : goes_on playout played ≡ true
  pub written : Fails (script_output playout (played ++ last ∷ [])) before after

-- how a plan ends after these bytes were read: their sheet was played; or they are one more than a sheet may have; or they are no sheet,
-- for this reason; or a read or a write failed; or memory ran out
abbrev pub PlanEnds : Playout → Option RunFault → List ℕ → Streams → Streams → Type 0
PlanEnds playout None bytes before after =
    (sheet : SheetView) × IsSheetOf playout.config.rate bytes sheet before after × PlaysSheet playout sheet before.out after.out
PlanEnds playout (Some faults.InputTooLong) bytes before after =
    (length bytes ≡ MAX_SHEET_BYTES + 1) × (after.input.faults ≡ before.input.faults) × (after.out ≡ before.out)
PlanEnds playout (Some (faults.Plan number)) bytes before after =
    IsNoSheet playout.config.rate bytes (sheet_fault.Line number) before after
PlanEnds playout (Some faults.PlanEnd) bytes before after =
    IsNoSheet playout.config.rate bytes sheet_fault.NoEnd before after
PlanEnds playout (Some faults.Device) bytes before after =
    (length bytes ≤ MAX_SHEET_BYTES)
    × ((Rose before.input.faults after.input.faults × (after.out ≡ before.out))
    ⊎ ((sheet : SheetView) × IsSheetOf playout.config.rate bytes sheet before after
    × FailsInScript playout (script_of sheet) before.out after.out))
PlanEnds playout (Some faults.OutOfMemory) bytes before after =
    (length bytes ≤ MAX_SHEET_BYTES) × (after.input.faults ≡ before.input.faults)
    × ((after.out ≡ before.out)
    ⊎ ((sheet : SheetView) × IsSheetOf playout.config.rate bytes sheet before after
    × PlaysPart playout (script_of sheet) before.out after.out))
PlanEnds playout (Some (faults.Record name)) bytes before after = ⊥
PlanEnds playout (Some (faults.Resume number)) bytes before after = ⊥
PlanEnds playout (Some faults.Usage) bytes before after = ⊥
PlanEnds playout (Some faults.ConfigText) bytes before after = ⊥
PlanEnds playout (Some (faults.ConfigKey key)) bytes before after = ⊥
PlanEnds playout (Some (faults.BadLine number)) bytes before after = ⊥
PlanEnds playout (Some (faults.Clip fault)) bytes before after = ⊥
PlanEnds playout (Some (faults.MediaTwice name)) bytes before after = ⊥
PlanEnds playout (Some (faults.MediaTotal sum)) bytes before after = ⊥

-- what was read of the input, and how the plan ended
pub record PlaysPlan (playout : Playout) (fault : Option RunFault) (before after : Streams) : Type 0 where
  pub bytes : List ℕ
  pub gives : Gives bytes before.input.left after.input.left
  pub ends : PlanEnds playout fault bytes before after
