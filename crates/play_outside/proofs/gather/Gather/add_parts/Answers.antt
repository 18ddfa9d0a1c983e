use Rattle.std.proofs.Common.{append-nil}
use Rattle.play_outside.proofs.Gathering.{Gathered-none, Gathered-turn, Adds-turn}
use Rattle.play_outside.proofs.gather.Gather.add_parts.Goals as goal

pub loop-part-init : goal.loop-part-init
loop-part-init g c = rw append-nil (Gathered-none c.args.self.now (g.K.Sink.state c.args.to.now))

pub returns-in_err-add : goal.returns-in_err-add
returns-in_err-add g c =
    rw c.from_residual.ensures
    (Adds-turn _ _ _ _ _ _ _ _ _ _ c.loop-part-test.true c.loop-part.invariant (rw c.in_err-add.ensures at c.add.ensures.adds))

pub loop-part-preserved : goal.loop-part-preserved
loop-part-preserved g c = Gathered-turn _ _ _ _ _ _ _ _ _ _ c.loop-part-test.true c.loop-part.invariant (rw c.in_ok-add.ensures at c.add.ensures.adds)
