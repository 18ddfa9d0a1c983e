use Rattle.std.proofs.Common.{List, length, ◌+◌, ◌≤◌}
use Rattle.play_schedule.specs.Line.{SheetLine}
use Rattle.play_schedule.specs.inner.Reading.{IsAt}
use Rattle.play_schedule.proofs.sheet.read_sheet.Given as goal

abbrev pub invariant-loop-line : goal.invariant-loop-line
invariant-loop-line l = (l.reading.lines + length l.rest ≤ length l.bytes) × ((before : List SheetLine) × IsAt l.rate l.bytes l.rest l.reading before)

abbrev pub decreases-loop-line : goal.decreases-loop-line
decreases-loop-line l = length l.rest
