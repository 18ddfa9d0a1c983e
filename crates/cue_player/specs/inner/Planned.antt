-- A sheet that is read and played, step by step.
use Rattle.std.specs.Prelude.{◌≡◌, ℕ, ◌+◌, ◌≤◌, true, Option, Some, None, Result, Ok, Err, List, [], ◌∷◌, ◌++◌, length, replicate}
use Rattle.play_outside.specs.Faults.{Rose}
use Rattle.play_outside.specs.Source.{Gives, IsAtEnd}
use Rattle.play_outside.specs.SourceState.{SourceState}
use Rattle.play_outside.specs.SinkState.{SinkState, after_taking}
use Rattle.history_model.specs.scripts.Line.{ScriptLine, Said}
use Rattle.history_model.specs.scripts.Line as script
use Rattle.history_model.specs.scripts.History.{Playout, PlayedLine, ends_at, goes_on}
use Rattle.history_model.specs.scripts.Output.{script_output}
use Rattle.play_schedule.specs.declared.limits.TheConstants.{MAX_SHEET_BYTES}
use Rattle.play_schedule.specs.declared.sheet.SheetFault.{SheetFault}
use Rattle.play_schedule.specs.declared.sheet.SheetFault.TheVariants as sheet_fault
use Rattle.play_schedule.specs.declared.steps.SheetStep.{SheetStep}
use Rattle.play_schedule.specs.declared.steps.SheetStep.TheVariants.{Ticks, Line}
use Rattle.play_schedule.specs.SheetView.{SheetView}
use Rattle.play_schedule.specs.Sheet.{sheet_of}
use Rattle.play_schedule.specs.Unfolding.{script_of}
use Rattle.server_setup.specs.declared.fault.RunFault.{RunFault}
use Rattle.server_setup.specs.declared.fault.RunFault.TheVariants as faults
use Rattle.cue_player.specs.Planning.{FailsInScript, PlaysPart, PlaysSheet}
use Rattle.script_player.specs.Script.{Run, played_meanings}
use Rattle.script_player.specs.declared.ending.Halt.{Halt}
use Rattle.script_player.specs.declared.ending.Halt.TheVariants as halt
use Rattle.script_player.specs.declared.player.Player.{Player}
use Rattle.script_player.specs.Player.{Represents}
use Rattle.script_player.specs.Shown.{Frames}

-- the script lines of a step of a sheet: a line for each tick, or the line of a connection
abbrev pub step_lines : SheetStep → List ScriptLine
step_lines (Ticks count) = replicate count (script.Ticks 1)
step_lines (Line tag text) = Said tag text ∷ []

-- the number of ticks of a step
abbrev pub step_ticks : SheetStep → ℕ
step_ticks (Ticks count) = count
step_ticks (Line tag text) = 0

-- these lines of a script were played, the run goes on after them, and their output was written
pub record HasPlayedLines (run : Run) (lines : List ScriptLine) (player : Player) (state : SinkState) : Type 0 where
  pub played : List PlayedLine
  pub said : played_meanings played ≡ lines
  pub runs_on : goes_on run.playout played ≡ true
  pub represents : Represents Frames run.playout player played
  pub written : state ≡ after_taking run.first (script_output run.playout played)

-- the run ends at one of these lines, which is a kill, and the output up to it was written
pub record EndsInScript (run : Run) (lines : List ScriptLine) (state : SinkState) : Type 0 where
  pub played : List PlayedLine
  pub last : PlayedLine
  pub rest : List ScriptLine
  pub said : lines ≡ played_meanings (played ++ last ∷ []) ++ rest
  pub runs_on : goes_on run.playout played ≡ true
  pub ends : ends_at run.playout played last last.line ≡ true
  pub written : state ≡ after_taking run.first (script_output run.playout (played ++ last ∷ []))

-- the run stops within these lines: at a kill, at a failed write, or out of memory
abbrev pub HaltsInScript : Run → Halt → List ScriptLine → SinkState → Type 0
HaltsInScript run halt.Stop lines state = EndsInScript run lines state
HaltsInScript run halt.Write lines state = FailsInScript run.playout lines run.first state
HaltsInScript run halt.Memory lines state = PlaysPart run.playout lines run.first state
HaltsInScript run halt.Rejected lines state = ⊥

-- all of these lines were played, or the run stops within them
abbrev pub PlaysLines : Run → List ScriptLine → Result (Unit {0}) Halt → Player → SinkState → Type 0
PlaysLines run lines (Ok done) player state = HasPlayedLines run lines player state
PlaysLines run lines (Err reason) player state = HaltsInScript run reason lines state

-- the lines of a script before those that are left were played
pub record HasPlayedUpTo (run : Run) (whole left : List ScriptLine) (player : Player) (state : SinkState) : Type 0 where
  pub lines : List ScriptLine
  pub parts : whole ≡ lines ++ left
  pub plays : HasPlayedLines run lines player state

-- the fault of lines that were played, none if they were played to their end or to a kill
abbrev pub fault_of_lines : Result (Unit {0}) Halt → Option RunFault
fault_of_lines (Ok done) = None
fault_of_lines (Err halt.Stop) = None
fault_of_lines (Err halt.Write) = Some faults.Device
fault_of_lines (Err halt.Memory) = Some faults.OutOfMemory
fault_of_lines (Err halt.Rejected) = None

-- how a sheet was played: with this fault, or none
abbrev pub SheetEnds : Playout → SheetView → Option RunFault → SinkState → SinkState → Type 0
SheetEnds playout sheet None before after = PlaysSheet playout sheet before after
SheetEnds playout sheet (Some faults.Device) before after = FailsInScript playout (script_of sheet) before after
SheetEnds playout sheet (Some faults.OutOfMemory) before after = PlaysPart playout (script_of sheet) before after
SheetEnds playout sheet (Some faults.Usage) before after = ⊥
SheetEnds playout sheet (Some faults.ConfigText) before after = ⊥
SheetEnds playout sheet (Some (faults.ConfigKey key)) before after = ⊥
SheetEnds playout sheet (Some (faults.BadLine number)) before after = ⊥
SheetEnds playout sheet (Some faults.InputTooLong) before after = ⊥
SheetEnds playout sheet (Some (faults.Plan number)) before after = ⊥
SheetEnds playout sheet (Some faults.PlanEnd) before after = ⊥
SheetEnds playout sheet (Some (faults.Record name)) before after = ⊥
SheetEnds playout sheet (Some (faults.Resume number)) before after = ⊥
SheetEnds playout sheet (Some (faults.Clip fault)) before after = ⊥
SheetEnds playout sheet (Some (faults.MediaTwice name)) before after = ⊥
SheetEnds playout sheet (Some (faults.MediaTotal sum)) before after = ⊥

-- the fault of a run whose sheet is refused
abbrev pub fault_of_sheet : SheetFault → RunFault
fault_of_sheet (sheet_fault.Line at) = faults.Plan at
fault_of_sheet sheet_fault.NoEnd = faults.PlanEnd
fault_of_sheet sheet_fault.OutOfMemory = faults.OutOfMemory

-- all of an input was read, at most the bytes of a sheet, and no read failed
pub record IsReadToEnd (bytes : List ℕ) (before after : SourceState) : Type 0 where
  pub at_end : IsAtEnd after
  pub quiet : after.faults ≡ before.faults
  pub few : length bytes ≤ MAX_SHEET_BYTES

-- these bytes were read, and they are a sheet, or no sheet for this reason; or they are too many; or a read failed; or memory ran out
abbrev pub SheetReadEnds : ℕ → Result SheetView RunFault → List ℕ → SourceState → SourceState → Type 0
SheetReadEnds rate (Ok sheet) bytes before after = IsReadToEnd bytes before after × (sheet_of rate bytes ≡ Ok sheet)
SheetReadEnds rate (Err (faults.Plan number)) bytes before after =
    IsReadToEnd bytes before after × (sheet_of rate bytes ≡ Err (sheet_fault.Line number))
SheetReadEnds rate (Err faults.PlanEnd) bytes before after =
    IsReadToEnd bytes before after × (sheet_of rate bytes ≡ Err sheet_fault.NoEnd)
SheetReadEnds rate (Err faults.InputTooLong) bytes before after = (length bytes ≡ MAX_SHEET_BYTES + 1) × (after.faults ≡ before.faults)
SheetReadEnds rate (Err faults.Device) bytes before after = (length bytes ≤ MAX_SHEET_BYTES) × Rose before.faults after.faults
SheetReadEnds rate (Err faults.OutOfMemory) bytes before after = (length bytes ≤ MAX_SHEET_BYTES) × (after.faults ≡ before.faults)
SheetReadEnds rate (Err (faults.Record name)) bytes before after = ⊥
SheetReadEnds rate (Err (faults.Resume number)) bytes before after = ⊥
SheetReadEnds rate (Err faults.Usage) bytes before after = ⊥
SheetReadEnds rate (Err faults.ConfigText) bytes before after = ⊥
SheetReadEnds rate (Err (faults.ConfigKey key)) bytes before after = ⊥
SheetReadEnds rate (Err (faults.BadLine number)) bytes before after = ⊥
SheetReadEnds rate (Err (faults.Clip fault)) bytes before after = ⊥
SheetReadEnds rate (Err (faults.MediaTwice name)) bytes before after = ⊥
SheetReadEnds rate (Err (faults.MediaTotal sum)) bytes before after = ⊥

-- what was read of an input as a sheet, and how the reading ended
pub record ReadsSheet (rate : ℕ) (result : Result SheetView RunFault) (before after : SourceState) : Type 0 where
  pub bytes : List ℕ
  pub gives : Gives bytes before.left after.left
  pub ends : SheetReadEnds rate result bytes before after
