use Rattle.std.proofs.Common.{ap, sym, ◌∙◌}
use Rattle.rtrb.specs.Ring.{received}
use Rattle.live_output.proofs.Frames.{all_stay}
use Rattle.live_output.proofs.output.LiveOutput.take.Goals as goal

pub returns-clause-served : goal.returns-clause-served
returns-clause-served g c =
    λ served. let more = c.take-came.ensures.more in
    all_stay g.W.Write.contents (received c.args.self.now.window.inbox) more.0 _ _ _ (more.1 ∙ sym c.let_go.ensures.rest.2) (ap (λ r. r.items) c.let_go.ensures.rest.0) served
