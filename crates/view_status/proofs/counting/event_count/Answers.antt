use Rattle.std.proofs.Common.{arith}
use Rattle.play_journal.specs.Runs.{run_of}
use Rattle.play_journal.proofs.Few.{few_events}
use Rattle.view_status.proofs.Counted.{first_of_left, length_of_runs, none_counted}
use Rattle.view_status.proofs.counting.event_count.Goals as goal

pub loop-run-init : goal.loop-run-init
loop-run-init c = none_counted c.args.journal.now.events c.into_iter-run-iterator.result (rw c.into_iter-run-iterator.ensures.into_iter_gives c.events-run-items.ensures)

pub loop-run-preserved : goal.loop-run-preserved
loop-run-preserved c =
    let first = first_of_left c.in-Some.run' _ _ _ c.in-Some.is c.next.ensures.steps in
    let so_far = rw first at c.loop-run.invariant in
    omega (arith, so_far, length_of_runs (run_of c.in-Some.run') c.next.new.self)

pub overflow_add-count : goal.overflow_add-count
overflow_add-count c =
    let first = first_of_left c.in-Some.run' _ _ _ c.in-Some.is c.next.ensures.steps in
    let so_far = rw first at c.loop-run.invariant in
    let few = few_events c.args.journal.now.events c.held-held.ensures.range.history in
    omega (arith, so_far, length_of_runs (run_of c.in-Some.run') c.next.new.self, few, c.held-held.ensures.value, c.held-held.ensures.range.ticks)

pub returns : goal.returns
returns c = let all = rw c.in-None.ensures.steps.0 at c.loop-run.invariant in omega (arith, all)
