use Rattle.std.proofs.Common.{arith}
use Rattle.play_journal.specs.Runs.{run_of}
use Rattle.play_journal.proofs.Few.{few_events}
use Rattle.view_status.proofs.Counted.{first_of_left}
use Rattle.view_status.proofs.Listed.{next_fits, next_listed, next_passed}
use Rattle.view_status.proofs.events.write_events.Goals as goal

pub after-place-requires-clause-room : goal.after-place-requires-clause-room
after-place-requires-clause-room c =
    let first = first_of_left c.in-Some.run' _ _ _ c.in-Some.is c.next.ensures.steps in
    let fits = next_fits _ _ _ _ _ _ _ (run_of c.in-Some.run') c.next.new.self (rw first at c.loop-run.invariant) in
    let few = few_events c.args.journal.now.events c.held-held.ensures.range.history in
    omega (arith, fits, few, c.held-held.ensures.value, c.held-held.ensures.range.ticks)

pub loop-run-preserved-then-not-lists : goal.loop-run-preserved-then-not-lists
loop-run-preserved-then-not-lists c =
    let first = first_of_left c.in-Some.run' _ _ _ c.in-Some.is c.next.ensures.steps in
    next_passed _ _ _ _ _ _ _ c.after-place.result (run_of c.in-Some.run') c.next.new.self (rw first at c.loop-run.invariant)
    c.after-place.ensures.position c.after-place.ensures.tick c.after-place.ensures.ticks (cc (c.lists.ensures, c.if-not-lists.true))

pub loop-run-preserved : goal.loop-run-preserved
loop-run-preserved c =
    let first = first_of_left c.in-Some.run' _ _ _ c.in-Some.is c.next.ensures.steps in
    next_listed _ _ _ _ _ _ _ c.after-place.result (run_of c.in-Some.run') c.next.new.self (rw first at c.loop-run.invariant)
    c.after-place.ensures.position c.after-place.ensures.tick c.after-place.ensures.ticks
    _ _ (cc (c.lists.ensures, c.if-not-lists.false)) (omega arith) c.in_ok-write_event.ensures
