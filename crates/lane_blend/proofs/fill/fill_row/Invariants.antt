use Rattle.std.proofs.Common.{◌-◌, length}
use Rattle.lane_blend.proofs.Writing.{IsWrittenTo, IsWrittenBy16, filled_at}
use Rattle.lane_blend.proofs.fill.fill_row.Given as goal

abbrev pub invariant-lanes : goal.invariant-lanes
invariant-lanes l = IsWrittenBy16 (filled_at l.fn.pixel) l.fn.row l.row l.at

abbrev pub decreases-lanes : goal.decreases-lanes
decreases-lanes l = length l.row - l.at

abbrev pub invariant-bytes : goal.invariant-bytes
invariant-bytes l = IsWrittenTo (filled_at l.fn.pixel) l.fn.row l.row l.at

abbrev pub decreases-bytes : goal.decreases-bytes
decreases-bytes l = length l.row - l.at
