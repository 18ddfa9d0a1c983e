use Rattle.std.proofs.Common.{arith}
use Rattle.server_run.proofs.WriteHistory.{all_sent, failed_in_run, first_of_left, next_is_run, none_added, one_added}
use Rattle.play_journal.specs.Runs.{run_of}
use Rattle.server_run.proofs.history.write_history.Goals as goal

pub loop-run-init : goal.loop-run-init
loop-run-init g c =
    none_added _ _ _ _ _ c.new-text.ensures (rw c.into_iter-run-iterator.ensures.into_iter_gives c.events-run-items.ensures)

pub add_event-requires : goal.add_event-requires
add_event-requires g c =
    let first = first_of_left c.in-Some.run' _ _ _ c.in-Some.is c.next.ensures.steps in
    (omega arith, next_is_run _ _ _ _ (run_of c.in-Some.run') _ (rw first at c.loop-run.invariant))

pub loop-run-preserved : goal.loop-run-preserved
loop-run-preserved g c =
    let first = first_of_left c.in-Some.run' _ _ _ c.in-Some.is c.next.ensures.steps in
    one_added _ _ _ _ _ _ _ (run_of c.in-Some.run') _ c.history_text_by_runs.ensures (rw first at c.loop-run.invariant)
    (rw c.in_ok-add_event.ensures at c.add_event.ensures)

pub returns-in_err-add_event : goal.returns-in_err-add_event
returns-in_err-add_event g c =
    let first = first_of_left c.in-Some.run' _ _ _ c.in-Some.is c.next.ensures.steps in
    rw c.from_residual.ensures
    (failed_in_run _ _ _ _ _ _ _ (run_of c.in-Some.run') _ c.history_text_by_runs.ensures (rw first at c.loop-run.invariant)
    (rw c.in_err-add_event.ensures at c.add_event.ensures))

pub returns : goal.returns
returns g c = all_sent _ _ _ _ _ _ _ (rw c.in-None.ensures.steps.0 at c.loop-run.invariant) c.finish.ensures.sends
