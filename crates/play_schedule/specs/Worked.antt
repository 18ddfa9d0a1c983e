-- Words for the worked examples: sheets at 25 frames a second, and their scripts.
use Rattle.std.specs.Prelude.{ℕ, Option, Result, Ok, Err, List, [], codes}
use Prim.Native.String.{String}
use Rattle.history_model.specs.scripts.Line.{ScriptLine, Ticks, Said}
use Rattle.play_schedule.specs.declared.sheet.SheetFault.{SheetFault}
use Rattle.play_schedule.specs.declared.line_fault.LineFault.{LineFault}
use Rattle.play_schedule.specs.LineFaults.{fault_of_line}
use Rattle.play_schedule.specs.SheetView.{SheetView}
use Rattle.play_schedule.specs.Sheet.{sheet_of}
use Rattle.play_schedule.specs.Time.{moment_of}
use Rattle.play_schedule.specs.Unfolding.{script_of}

-- the moment that a text writes
abbrev pub moment : String → Option ℕ
moment text = moment_of 25 (codes text)

-- the sheet that a text writes, or its fault
abbrev pub sheet : String → Result SheetView SheetFault
sheet text = sheet_of 25 (codes text)

-- what is wrong with a line
abbrev pub fault_in : String → Option LineFault
fault_in text = fault_of_line 25 (codes text)

-- the script of a sheet, and none of a fault
abbrev pub script_from : Result SheetView SheetFault → List ScriptLine
script_from (Ok found) = script_of found
script_from (Err fault) = []

-- the script of the sheet that a text writes
abbrev pub script : String → List ScriptLine
script text = script_from (sheet text)

-- one tick
abbrev pub tick : ScriptLine
tick = Ticks 1

-- a line of session 1 of worker 1
abbrev pub says : String → ScriptLine
says text = Said (record { worker = 1; session = 1 }) (codes text)

-- a line of session 1 of worker 2
abbrev pub second_says : String → ScriptLine
second_says text = Said (record { worker = 2; session = 1 }) (codes text)
