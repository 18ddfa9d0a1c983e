-- Cue sheets.
use Rattle.std.specs.Prelude.{◌≡◌, ℕ, ◌+◌, ◌-◌, nat_lt, is_some, ◌||◌, if◌then◌else◌, Bool, true, false, Option, Some, None, Result, Ok, Err, List, [], ◌∷◌, ◌++◌, length, map, fold, slice_get}
use Rattle.std.specs.Option.{option_map_or}
use Rattle.std.specs.Str.Lines.{lines}
use Rattle.play_schedule.specs.declared.limits.TheConstants.{MAX_COPIES, MAX_MOMENT}
use Rattle.play_schedule.specs.declared.cue.Cue.{Cue}
use Rattle.play_schedule.specs.declared.cue.Start.{Start}
use Rattle.play_schedule.specs.declared.cue.Start.TheVariants.{At, After}
use Rattle.play_schedule.specs.declared.sheet.SheetFault.{SheetFault}
use Rattle.play_schedule.specs.declared.sheet.SheetFault.TheVariants as fault
use Rattle.play_schedule.specs.Line.{CueLine, SheetLine, line_of}
use Rattle.play_schedule.specs.Line as line
use Rattle.play_schedule.specs.SheetView.{SheetView}
use Rattle.play_schedule.specs.Due.{copies_in, is_due_after, last_moment}

-- the moment of the last of these cues, and 0 if there is none
abbrev pub moment_before : List Cue → ℕ
moment_before cues = option_map_or (λ (cue : Cue). cue.moment) (slice_get cues (length cues - 1)) 0

-- the moment of the first copy of a cue line after these cues
abbrev pub first_moment : List Cue → Start → ℕ
first_moment cues (At moment) = moment
first_moment cues (After ticks) = moment_before cues + ticks

-- the cue of a cue line after these cues
abbrev pub cue_after : List Cue → CueLine → Cue
cue_after cues cue = record { moment = first_moment cues cue.start; copies = cue.copies; tag = cue.tag; text = cue.text }

-- these cues and that of a line, if it is a cue line
abbrev pub cues_with : List Cue → SheetLine → List Cue
cues_with cues line.Comment = cues
cues_with cues (line.Cue cue) = cues ++ cue_after cues cue ∷ []
cues_with cues (line.End moment) = cues
cues_with cues line.Malformed = cues

-- the cues of lines, in their order
abbrev pub cues_of : List SheetLine → List Cue
cues_of lines = fold cues_with [] lines

-- the number of ticks that the first END of these lines names, if there is one
abbrev pub end_of : List SheetLine → Option ℕ
end_of [] = None
end_of (line.Comment ∷ lines) = end_of lines
end_of (line.Cue cue ∷ lines) = end_of lines
end_of (line.End moment ∷ lines) = Some moment
end_of (line.Malformed ∷ lines) = end_of lines

-- whether a cue line after these cues has a moment out of range, or too many copies together with theirs
abbrev pub is_cue_faulty : List Cue → CueLine → Bool
is_cue_faulty cues cue =
    nat_lt MAX_MOMENT (last_moment (cue_after cues cue)) || nat_lt MAX_COPIES (copies_in (cues ++ cue_after cues cue ∷ []))

-- whether a line is faulty after those before it: it is of no form, it follows END, it has a moment out of range or too
-- many copies, or it is an END before the moment of a copy
abbrev pub is_faulty : List SheetLine → SheetLine → Bool
is_faulty before line.Comment = false
is_faulty before (line.Cue cue) = is_some (end_of before) || is_cue_faulty (cues_of before) cue
is_faulty before (line.End moment) = is_some (end_of before) || is_due_after moment (cues_of before)
is_faulty before line.Malformed = true

-- the number of the first faulty line, from 1, of lines that follow others
abbrev pub first_fault : List SheetLine → List SheetLine → Option ℕ
first_fault before [] = None
first_fault before (line ∷ lines) =
    if is_faulty before line then Some (length before + 1) else first_fault (before ++ line ∷ []) lines

-- the sheet of these cues, if it has an END
abbrev pub ended_sheet : List Cue → Option ℕ → Result SheetView SheetFault
ended_sheet cues None = Err fault.NoEnd
ended_sheet cues (Some ticks) = Ok (record { cues = cues; ticks = ticks })

-- the sheet of lines without a faulty line, or its fault
abbrev pub sheet_unless : Option ℕ → List SheetLine → Result SheetView SheetFault
sheet_unless (Some at) lines = Err (fault.Line at)
sheet_unless None lines = ended_sheet (cues_of lines) (end_of lines)

-- the sheet of these lines, or its fault: the first faulty line, or else that there is no END
abbrev pub sheet_of_lines : List SheetLine → Result SheetView SheetFault
sheet_of_lines lines = sheet_unless (first_fault [] lines) lines

-- the sheet that these bytes write, with `rate` frames a second, or its fault
abbrev pub sheet_of : ℕ → List ℕ → Result SheetView SheetFault
sheet_of rate bytes = sheet_of_lines (map (line_of rate) (lines bytes))

-- the result is the sheet or its fault, unless memory ran out
abbrev pub IsReadAs : Result SheetView SheetFault → Result SheetView SheetFault → Type 0
IsReadAs written (Ok sheet) = written ≡ Ok sheet
IsReadAs written (Err (fault.Line at)) = written ≡ Err (fault.Line at)
IsReadAs written (Err fault.NoEnd) = written ≡ Err fault.NoEnd
IsReadAs written (Err fault.OutOfMemory) = Unit {0}
