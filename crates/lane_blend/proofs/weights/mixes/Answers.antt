use Rattle.std.proofs.Common.{◌-◌, arith}
use Rattle.lane_blend.proofs.Sides.{mixes}
use Rattle.lane_blend.proofs.weights.mixes.Goals as goal

pub returns : goal.returns
returns c = λ _. mixes c.args.j c.args.d (65536 - c.args.weight) c.args.weight c.args.base (omega arith) (omega arith) (λ e lt. c.bytes.invariant e (omega arith))
