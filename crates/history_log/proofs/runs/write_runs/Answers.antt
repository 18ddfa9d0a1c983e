use Rattle.std.proofs.Common.{List, ◌≡◌, ◌∙◌, sym, subst}
use Rattle.std.specs.List.{flat_map}
use Rattle.play_journal.specs.Room.{logged_run}
use Rattle.play_journal.specs.Runs.{Run, events_of}
use Rattle.history_log.proofs.Writing.{IsAddedTo, all_sent, failed_in_run, first_of_left, none_added, one_added}
use Rattle.history_log.proofs.runs.write_runs.Goals as goal

pub loop-run-init : goal.loop-run-init
loop-run-init g c =
    let first = g.K.Sink.state c.args.log.now in
    let same : c.into_iter-run-iterator.result ≡ c.args.room.now = c.into_iter-run-iterator.ensures.into_iter_gives ∙ c.runs-run-items.ensures.runs in
    subst (λ (runs : List Run). IsAddedTo c.args.names.now (flat_map events_of c.args.room.now) c.args.text.now (first, first) runs) (sym same)
    (none_added _ _ _ _ c.requires.none c.runs-run-items.ensures.times c.requires.apart)

pub add_run-requires : goal.add_run-requires
add_run-requires g c =
    let first = first_of_left c.in-Some.run' _ _ _ c.in-Some.is c.next.ensures.steps in
    (rw first at c.loop-run.invariant).times.0

pub loop-run-preserved : goal.loop-run-preserved
loop-run-preserved g c =
    let first = first_of_left c.in-Some.run' _ _ _ c.in-Some.is c.next.ensures.steps in
    one_added _ _ _ _ _ _ _ (logged_run c.in-Some.run') _ c.history_text_by_runs.ensures (rw first at c.loop-run.invariant)
    (rw c.in_ok-add_run.ensures at c.add_run.ensures)

pub returns-in_err-add_run-clause-sends : goal.returns-in_err-add_run-clause-sends
returns-in_err-add_run-clause-sends g c =
    let first = first_of_left c.in-Some.run' _ _ _ c.in-Some.is c.next.ensures.steps in
    rw c.from_residual.ensures
    (failed_in_run _ _ _ _ _ _ _ (logged_run c.in-Some.run') _ c.history_text_by_runs.ensures (rw first at c.loop-run.invariant)
    (rw c.in_err-add_run.ensures at c.add_run.ensures)).0

pub returns-in_err-add_run-clause-none : goal.returns-in_err-add_run-clause-none
returns-in_err-add_run-clause-none g c = (rw c.in_err-add_run.ensures at c.add_run.ensures).1

pub returns-clause-sends : goal.returns-clause-sends
returns-clause-sends g c = all_sent _ _ _ _ _ _ _ (rw c.in-None.ensures.steps.0 at c.loop-run.invariant) c.finish.ensures.sends
