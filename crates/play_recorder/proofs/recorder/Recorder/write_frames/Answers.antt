use Rattle.std.proofs.Common.{◌∙◌, ap, sym}
use Rattle.std.proofs.lemmas.Result.{err_from_is_err_and}
use Rattle.play_types.specs.History.{ticks}
use Rattle.play_journal.specs.Journal.{JournalView}
use Rattle.play_recorder.specs.inner.Recorder.{is_over}
use Rattle.play_recorder.proofs.Playing.{next_can}
use Rattle.play_recorder.proofs.Recorders.{all_recorded, film_over, none_recorded, none_skipped, one_recorded, still_configured, stopped_at}
use Rattle.play_recorder.proofs.recorder.Recorder.write_frames.Goals as goal

pub loop-event-init : goal.loop-event-init
loop-event-init g c = none_recorded _ _ _ _ c.requires.ready c.requires.new (rw c.into_iter-event-iterator.ensures.into_iter_gives c.each_event-event-items.ensures) c.requires.needed

pub write_event-requires-clause-channel : goal.write_event-requires-clause-channel
write_event-requires-clause-channel g c κs within =
    still_configured _ _ _ _ _ _ _ (rw c.in-Some.ensures.steps at c.loop-event.invariant) c.requires.channel

pub write_event-requires-clause-can : goal.write_event-requires-clause-can
write_event-requires-clause-can g c κs within =
    next_can _ _ _ _ _ (rw c.in-Some.ensures.steps at c.loop-event.invariant).played c.requires.can

pub write_event-requires-clause-needed : goal.write_event-requires-clause-needed
write_event-requires-clause-needed g c κs within = none_skipped _ _ _ _ _ _ _ (rw c.in-Some.ensures.steps at c.loop-event.invariant)

pub loop-event-preserved : goal.loop-event-preserved
loop-event-preserved g c =
    one_recorded _ _ _ _ _ _ _ (rw c.in-Some.ensures.steps at c.loop-event.invariant) c.write_event.new.self _
    c.in_ok-write_event.ensures.ready c.in_ok-write_event.ensures.follows c.write_event.ensures.film c.in_ok-write_event.ensures.written

pub returns-in_err-write_event : goal.returns-in_err-write_event
returns-in_err-write_event g c =
    let p = err_from_is_err_and c.from_residual.result c.from_residual.ensures.1 in
    rw (p.1, p.2)
    (stopped_at _ _ _ _ _ _ _ (rw c.in-Some.ensures.steps at c.loop-event.invariant) c.in_err-write_event.field-0.0 _ c.in_err-write_event.ensures.written)

pub returns : goal.returns
returns g c = all_recorded _ _ _ _ _ (rw c.in-None.ensures.steps.0 at c.loop-event.invariant)

pub returns-then-is_over : goal.returns-then-is_over
returns-then-is_over g c =
    film_over _ _ _ _ _ _ (rw c.in-Some.ensures.steps at c.loop-event.invariant)
    (ap (is_over c.loop-event.self.film.now) (sym (c.ticks.ensures.value ∙ ap (λ (j : JournalView). ticks j.events) c.journal.ensures)) ∙ sym c.is_over.ensures ∙ c.if-is_over.true)
