use Rattle.std.proofs.Common.{arith}
use Rattle.std.proofs.lemmas.Grind.{common_steps}
use Rattle.play_outside.proofs.Taking.{after_taking-more}
use Rattle.play_outside.proofs.sink.send.Goals as goal

pub loop-at-preserved : goal.loop-at-preserved
loop-at-preserved g c = record {
  within = grind (arith, common_steps, c.in-Took.ensures);
  taken = after_taking-more _ _ _ _ _ _ c.loop-at.invariant.within c.loop-at.invariant.taken c.in-Took.ensures.2;
}
