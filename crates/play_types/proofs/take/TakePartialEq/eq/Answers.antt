use Rattle.std.proofs.Common.{arith}
use Rattle.std.proofs.Math.Bool.{and_comm, and_assoc}
use Rattle.play_types.proofs.take.TakePartialEq.eq.Goals as goal

-- the fields are compared in another order than they are declared in
pub returns : goal.returns
returns c = grind (arith, and_comm, and_assoc)
