use Rattle.std.proofs.Common.{◌-◌, length}
use Rattle.lane_blend.specs.inner.Lanes.{over_at}
use Rattle.lane_blend.proofs.Writing.{IsWrittenTo, IsWrittenBy16}
use Rattle.lane_blend.proofs.over.over_row.Given as goal

abbrev pub invariant-lanes : goal.invariant-lanes
invariant-lanes l = IsWrittenBy16 (over_at l.src l.fn.dst) l.fn.dst l.dst l.at

abbrev pub decreases-lanes : goal.decreases-lanes
decreases-lanes l = length l.dst - l.at

abbrev pub invariant-bytes : goal.invariant-bytes
invariant-bytes l = IsWrittenTo (over_at l.src l.fn.dst) l.fn.dst l.dst l.at

abbrev pub decreases-bytes : goal.decreases-bytes
decreases-bytes l = length l.dst - l.at
