use Rattle.std.proofs.Common.{◌-◌, length}
use Rattle.lane_blend.specs.inner.Lanes.{key_at}
use Rattle.lane_blend.proofs.Writing.{IsWrittenTo, IsWrittenBy16}
use Rattle.lane_blend.proofs.key.key_row.Given as goal

abbrev pub invariant-lanes : goal.invariant-lanes
invariant-lanes l = IsWrittenBy16 (key_at l.fn.row l.keys) l.fn.row l.row l.at

abbrev pub decreases-lanes : goal.decreases-lanes
decreases-lanes l = length l.row - l.at

abbrev pub invariant-bytes : goal.invariant-bytes
invariant-bytes l = IsWrittenTo (key_at l.fn.row l.keys) l.fn.row l.row l.at

abbrev pub decreases-bytes : goal.decreases-bytes
decreases-bytes l = length l.row - l.at
