use Rattle.std.proofs.Common.{◌-◌, length}
use Rattle.lane_blend.proofs.Writing.{IsWrittenTo, mix_at}
use Rattle.lane_blend.proofs.mix.mix_by_weights.Given as goal

abbrev pub invariant-bytes : goal.invariant-bytes
invariant-bytes l = IsWrittenTo (mix_at l.fn.old_in_out l.new l.j l.d) l.fn.old_in_out l.old_in_out l.at

abbrev pub decreases-bytes : goal.decreases-bytes
decreases-bytes l = length l.old_in_out - l.at
