use Rattle.lane_blend.proofs.Writing.{lowered_mix}
use Rattle.lane_blend.proofs.mix.RowMix.apply.Goals as goal

pub returns-in-Some-clause-lowered : goal.returns-in-Some-clause-lowered
returns-in-Some-clause-lowered c =
    lowered_mix c.args.old_in_out.now c.args.new.now c.mix_by_weights.new.old_in_out c.self.inside.j c.self.inside.d c.self.invariant.0.before
    c.mix_by_weights.ensures c.requires.old c.requires.new

pub returns-in-None-clause-lowered : goal.returns-in-None-clause-lowered
returns-in-None-clause-lowered c =
    lowered_mix c.args.old_in_out.now c.args.new.now c.mix_plainly.new.old_in_out c.self.inside.j c.self.inside.d c.self.invariant.0.before
    c.mix_plainly.ensures c.requires.old c.requires.new
