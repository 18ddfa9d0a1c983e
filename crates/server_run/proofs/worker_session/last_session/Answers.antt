use Rattle.std.proofs.Common.{ℕ, max, ap, ◌∙◌}
use Rattle.play_journal.specs.Runs.{run_of}
use Rattle.server_run.proofs.Sessions.{all_counted, none_counted, one_counted}
use Rattle.server_run.proofs.WriteHistory.{first_of_left}
use Rattle.server_run.proofs.worker_session.last_session.Goals as goal

pub loop-run-init : goal.loop-run-init
loop-run-init c = none_counted _ _ _ (rw c.into_iter-run-iterator.ensures.into_iter_gives c.events-run-items.ensures)

pub loop-run-preserved : goal.loop-run-preserved
loop-run-preserved c =
    let first = first_of_left c.in-Some.run' _ _ _ c.in-Some.is c.next.ensures.steps in
    one_counted _ _ _ _ (run_of c.in-Some.run') _ (rw first at c.loop-run.invariant) (c.greater-last.ensures ∙ ap (λ (n : ℕ). max c.loop-run.last n) c.session_by.ensures)

pub returns : goal.returns
returns c = all_counted _ _ _ (rw c.in-None.ensures.steps.0 at c.loop-run.invariant)
