use Rattle.std.proofs.Common.{◌≡◌, ◌∷◌, ◌∙◌, ap, refl, sym}
use Rattle.play_types.specs.History.{ticks}
use Rattle.play_journal.specs.Journal.{JournalView}
use Rattle.play_recorder.specs.inner.Needed.{least_needed}
use Rattle.play_recorder.specs.inner.Recorder.{is_over}
use Rattle.play_recorder.proofs.Looking.{look_over, one_looked}
use Rattle.play_recorder.proofs.Playing.{next_can, none_played}
use Rattle.play_recorder.proofs.first_needed.Look.first_needed.Goals as goal

pub loop-event-init : goal.loop-event-init
loop-event-init c =
    let look = c.args.self.now in
    let items : c.into_iter-event-iterator.result ≡ c.args.journal.now.events = rw c.into_iter-event-iterator.ensures.into_iter_gives c.each_event-event-items.ensures in
    record {
      depths = c.requires.depths;
      film = refl;
      played = none_played look.replay.played.stage c.args.journal.now.events _ c.requires.new items;
      first = λ i. least_needed look.film.now (sym c.requires.new i) (sym items i) (sym c.requires.first i);
    }

pub returns-then-is_over : goal.returns-then-is_over
returns-then-is_over c =
    let look = c.args.self.now in
    look_over look.film.now c.args.journal.now.events c.loop-event.self (c.in-Some.event.now ∷ c.next.new.self) (rw c.in-Some.ensures.steps at c.loop-event.invariant.first)
    (ap (is_over look.film.now) (sym (c.ticks.ensures.value ∙ ap (λ (j : JournalView). ticks j.events) c.journal.ensures))
    ∙ ap (λ film. is_over film c.ticks.result) (sym c.loop-event.invariant.film) ∙ sym c.is_over.ensures ∙ c.if-is_over.true)

pub event-requires-clause-can : goal.event-requires-clause-can
event-requires-clause-can c =
    next_can c.args.self.now.replay.played.stage c.args.journal.now.events c.loop-event.self.replay.played.stage c.in-Some.event.now c.next.new.self
    (rw c.in-Some.ensures.steps at c.loop-event.invariant.played) c.requires.can

pub loop-event-preserved : goal.loop-event-preserved
loop-event-preserved c =
    let look = c.args.self.now in
    let next =
    one_looked look.film.now look.replay.played.stage c.args.journal.now.events c.loop-event.self c.in-Some.event.now c.next.new.self c.event.new.self
    c.loop-event.invariant.film (rw c.in-Some.ensures.steps at c.loop-event.invariant.played) (rw c.in-Some.ensures.steps at c.loop-event.invariant.first)
    c.in_ok-event.ensures.depths c.in_ok-event.ensures.made c.event.ensures.film c.in_ok-event.ensures.first in
    record { depths = next.0; film = next.1; played = next.2; first = next.3 }
