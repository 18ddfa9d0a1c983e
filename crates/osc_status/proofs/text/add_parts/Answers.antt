use Rattle.std.proofs.Common.{append-nil}
use Rattle.play_outside.proofs.Gathering.{Gathered-none, Gathered-turn, Adds-turn}
use Rattle.osc_status.proofs.text.add_parts.Goals as goal

pub loop-part-init : goal.loop-part-init
loop-part-init g c = rw append-nil (Gathered-none c.args.pieces.now (g.K.Sink.state c.args.to.now))

pub returns-in_err-add_part : goal.returns-in_err-add_part
returns-in_err-add_part g c =
    rw c.from_residual.ensures
    (Adds-turn _ _ _ _ _ _ _ _ _ _ c.loop-part-test.true c.loop-part.invariant (rw c.in_err-add_part.ensures at c.add_part.ensures))

pub loop-part-preserved : goal.loop-part-preserved
loop-part-preserved g c = Gathered-turn _ _ _ _ _ _ _ _ _ _ c.loop-part-test.true c.loop-part.invariant (rw c.in_ok-add_part.ensures at c.add_part.ensures)
