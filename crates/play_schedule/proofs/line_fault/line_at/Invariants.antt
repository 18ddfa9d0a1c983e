use Rattle.std.proofs.Common.{◌≡◌, length}
use Rattle.std.specs.Prelude.{slice_get}
use Rattle.std.specs.Str.Lines.{lines}
use Rattle.play_schedule.proofs.line_fault.line_at.Given as goal

-- the line is the one of the rest with `before` lines before it
abbrev pub invariant-loop-line : goal.invariant-loop-line
invariant-loop-line l = slice_get (lines l.rest) l.before ≡ slice_get (lines l.text) l.at

abbrev pub decreases-loop-line : goal.decreases-loop-line
decreases-loop-line l = length l.rest
