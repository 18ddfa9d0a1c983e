-- What was read of a sheet.
use Rattle.std.specs.Prelude.{◌≡◌, ℕ, ◌+◌, true, false, Result, Ok, Err, List, [], ◌∷◌, ◌++◌, length, map}
use Rattle.std.specs.Str.Lines.{lines}
use Rattle.play_schedule.specs.declared.reading.Reading.{Reading}
use Rattle.play_schedule.specs.declared.sheet.SheetFault.{SheetFault}
use Rattle.play_schedule.specs.declared.sheet.SheetFault.TheVariants as fault
use Rattle.play_schedule.specs.Line.{SheetLine, line_of}
use Rattle.play_schedule.specs.Sheet.{cues_of, end_of, first_fault, is_faulty, sheet_of, sheet_unless}

-- the reading has the contents of these lines
pub record HasRead (reading : Reading) (before : List SheetLine) : Type 0 where
  pub cues : reading.cues.items ≡ cues_of before
  pub ticks : reading.ticks ≡ end_of before
  pub lines : reading.lines ≡ length before

-- the fault is that of a line after those before it, unless memory ran out
abbrev pub FaultsAt : List SheetLine → SheetLine → SheetFault → Type 0
FaultsAt before line (fault.Line at) = (is_faulty before line ≡ true) × (at ≡ length before + 1)
FaultsAt before line fault.NoEnd = ⊥
FaultsAt before line fault.OutOfMemory = Unit {0}

-- what becomes of a line after those before it: it is read too, or it is faulty
abbrev pub TakesLine : List SheetLine → SheetLine → Result (Unit {0}) SheetFault → Reading → Type 0
TakesLine before line (Ok done) reading = (is_faulty before line ≡ false) × HasRead reading (before ++ line ∷ [])
TakesLine before line (Err fault) reading = FaultsAt before line fault

-- some first lines of the bytes were read, none of them faulty, and the others are those of the rest
pub record IsAt (rate : ℕ) (bytes rest : List ℕ) (reading : Reading) (before : List SheetLine) : Type 0 where
  pub read : HasRead reading before
  pub sheet : let later = map (line_of rate) (lines rest) in sheet_of rate bytes ≡ sheet_unless (first_fault before later) (before ++ later)
