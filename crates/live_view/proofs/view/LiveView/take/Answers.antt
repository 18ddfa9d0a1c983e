use Rattle.live_view.specs.View.{state_of}
use Rattle.live_view.proofs.Taking.{passed}
use Rattle.live_view.proofs.view.LiveView.take.Goals as goal

pub returns-then-self-clause-takes : goal.returns-then-self-clause-takes
returns-then-self-clause-takes g c = λ playout bytes is. passed playout bytes c.args.piece.now (state_of c.args.self) c.if-self.true is
