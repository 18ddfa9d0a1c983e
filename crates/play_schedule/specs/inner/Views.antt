-- The values that contracts see of code values with references.
use Rattle.std.specs.Prelude.{ℕ, List}
use Rattle.std.specs.Borrow.{Bor}
use Rattle.play_types.specs.declared.event.Tag.{Tag}
use Rattle.play_schedule.specs.declared.cue.Copies.{Copies}
use Rattle.play_schedule.specs.declared.line.CueLine.{CueLine as Written}
use Rattle.play_schedule.specs.declared.line.SheetLine.{SheetLine as Found}
use Rattle.play_schedule.specs.declared.line.SheetLine.TheVariants as found
use Rattle.play_schedule.specs.Line.{CueLine, SheetLine, Comment, Cue, End, Malformed}

-- two slices, by their bytes
abbrev pub parts_view : (Bor (List ℕ)) × (Bor (List ℕ)) → List ℕ × List ℕ
parts_view parts = (parts.0.now, parts.1.now)

-- a number and the bytes that follow it
abbrev pub number_view : ℕ × (Bor (List ℕ)) → ℕ × List ℕ
number_view parts = (parts.0, parts.1.now)

-- copies and the bytes that follow them
abbrev pub copies_view : Copies × (Bor (List ℕ)) → Copies × List ℕ
copies_view parts = (parts.0, parts.1.now)

-- a connection and the bytes that it sends
abbrev pub said_view : Tag × (Bor (List ℕ)) → Tag × List ℕ
said_view parts = (parts.0, parts.1.now)

-- a cue line, its text by its bytes
abbrev pub cue_view : Written → CueLine
cue_view line = record { start = line.start; copies = line.copies; tag = line.tag; text = line.text.now }

-- a line, its text by its bytes
abbrev pub line_view : Found → SheetLine
line_view found.Comment = Comment
line_view (found.Cue line) = Cue (cue_view line)
line_view (found.End moment) = End moment
line_view found.Malformed = Malformed
