use Rattle.std.proofs.Common.{◌-◌, length}
use Rattle.lane_blend.proofs.Writing.{IsWrittenTo, fade_at}
use Rattle.lane_blend.proofs.fade.fade_plainly.Given as goal

abbrev pub invariant-bytes : goal.invariant-bytes
invariant-bytes l = IsWrittenTo (fade_at l.fn.row l.opacity) l.fn.row l.row l.at

abbrev pub decreases-bytes : goal.decreases-bytes
decreases-bytes l = length l.row - l.at
