-- The stop of a run's history, and how its pulses ended.
use Rattle.std.proofs.Common.{◌≡◌, ℕ, ◌+◌, ◌==◌, ◌&&◌, ◌||◌, Bool, true, false, List, [], ◌∷◌, ◌++◌, length, refl, sym, ap, subst, ◌∙◌, arith, append_assoc}
use Rattle.std.specs.Prelude.{Option, None, Some, option_map}
use Rattle.std.proofs.Math.Bool.{or-true}
use Rattle.std.proofs.lemmas.Bool.Decides.{nat_tests}
use mathlib.Core.List.{IsPrefix}
use Rattle.play_types.specs.History.{IsHistory, stop_at, ticks}
use Rattle.play_types.specs.declared.event.Event.{Event}
use Rattle.play_types.specs.declared.event.Event.TheVariants.{Do, Batch, Tick, Stop}
use Rattle.play_types.specs.declared.event.Tag.{Tag}
use Rattle.play_types.proofs.Histories.{stop_at-append, stop_at-other, ticks-append}
use Rattle.play_outside.specs.SinkState.{SinkState}
use Rattle.history_model.specs.scripts.History.{server}
use Rattle.stage_lock.specs.Own.{has_final, is_final}
use Rattle.stage_lock.specs.Views.{PassView}
use Rattle.play_ticker.specs.Ends.{EndsPass}
use Rattle.play_ticker.specs.Outputs.{AllTakeFrames, AreWritten, Beginning, shown_from}
use Rattle.play_ticker.specs.declared.ending.TickEnd.{TickEnd}
use Rattle.play_ticker.specs.declared.ending.TickEnd.TheVariants.{ClockClosed, Ended, TicksOver, ClockFault, OutFault}
use Rattle.play_ticker.proofs.Frames.{GoesOn}
use Rattle.play_ticker.proofs.Taking.{still_taken}
use Rattle.server_run.specs.Run.{EndsWithStop, TicksEndBy}
use Rattle.server_run.proofs.IsExplainedLink.{prefix_after, stop_stays}

one_more : (event : Event) (events : List Event) (at : ℕ) → ((k : ℕ) → stop_at events ≡ Some k → EndsWithStop events)
    → option_map (λ n. 1 + n) (stop_at events) ≡ Some at → EndsWithStop (event ∷ events)
one_more event events at rest is = go (stop_at events) refl is
  where
    more : EndsWithStop events → EndsWithStop (event ∷ events)
    more ends = record { events = event ∷ ends.events; tag = ends.tag; whole = ap (λ (es : List Event). event ∷ es) ends.whole }

    go : (o : Option ℕ) → stop_at events ≡ o → option_map (λ n. 1 + n) o ≡ Some at → EndsWithStop (event ∷ events)
    go None found h = absurd cc
    go (Some k) found h = more (rest k found)

-- a history with a stop ends with it
pub ends_with_stop : (history : List Event) (at : ℕ) → IsHistory history → stop_at history ≡ Some at → EndsWithStop history
ends_with_stop [] at whole is = absurd cc
ends_with_stop (Do tag cmd ∷ events) at whole is = one_more (Do tag cmd) events at (λ k found. ends_with_stop events k whole found) (sym (stop_at-other (Do tag cmd) events refl) ∙ is)
ends_with_stop (Batch tag cmds ∷ events) at whole is = one_more (Batch tag cmds) events at (λ k found. ends_with_stop events k whole.1 found) (sym (stop_at-other (Batch tag cmds) events refl) ∙ is)
ends_with_stop (Tick ∷ events) at whole is = one_more Tick events at (λ k found. ends_with_stop events k whole found) (sym (stop_at-other Tick events refl) ∙ is)
ends_with_stop (Stop tag ∷ events) at whole is = record { events = []; tag = tag; whole = ap (λ (es : List Event). Stop tag ∷ es) whole }

-- the tag of the server's own stop
pub same_server : (tag : Tag) → is_final (Stop tag) ≡ true → tag ≡ server
same_server tag is = go (tag.worker == 0) refl (tag.session == 0) refl is
  where
    go : (a : Bool) → (tag.worker == 0) ≡ a → (b : Bool) → (tag.session == 0) ≡ b → (a && b) ≡ true → tag ≡ server
    go true worker true session h =
        let w : tag.worker ≡ 0 = grind (arith, nat_tests) in
        let s : tag.session ≡ 0 = grind (arith, nat_tests) in
        λ i. record { worker = w i; session = s i }
    go true worker false session h = absurd cc
    go false worker b session h = absurd cc

pub has_final_last : (events : List Event) → has_final (events ++ Stop server ∷ []) ≡ true
has_final_last [] = refl
has_final_last (event ∷ events) = ap (λ (b : Bool). is_final event || b) (has_final_last events) ∙ or-true (is_final event)

-- the second part of a history is one
pub history_after : (xs ys : List Event) → IsHistory (xs ++ ys) → IsHistory ys
history_after [] ys whole = whole
history_after (Do tag cmd ∷ xs) ys whole = history_after xs ys whole
history_after (Batch tag cmds ∷ xs) ys whole = history_after xs ys whole.1
history_after (Tick ∷ xs) ys whole = history_after xs ys whole
history_after (Stop tag ∷ xs) ys whole = subst IsHistory (sym (nothing xs ys whole)) tt
  where
    nothing : (xs ys : List Event) → xs ++ ys ≡ [] → ys ≡ []
    nothing [] ys none = none
    nothing (x ∷ xs) ys none = absurd cc

-- if the given events hold no stop, the first stop is of those that follow
pub stop_after : (given events : List Event) (at : ℕ) → stop_at given ≡ None → stop_at (given ++ events) ≡ Some at → (k : ℕ) × (stop_at events ≡ Some k)
stop_after given events at running is = go (stop_at events) refl (sym (stop_at-append given events running) ∙ is)
  where
    go : (o : Option ℕ) → stop_at events ≡ o → option_map (λ n. length given + n) o ≡ Some at → (k : ℕ) × (stop_at events ≡ Some k)
    go None found h = absurd cc
    go (Some k) found h = (k, found)

-- the ticker has seen a stop
pub seen_stop : (given : List Event) (ticker : TickEnd) (old new : PassView) → EndsPass given ticker old new → (at : ℕ) × (stop_at (given ++ new.seen) ≡ Some at)
seen_stop given ClockClosed old new end = (end.at, end.stopped)
seen_stop given (Ended at) old new end = (at, end.0)
seen_stop given TicksOver old new end = (end.0.at, end.0.stopped)
seen_stop given ClockFault old new end = (end.at, end.stopped)
seen_stop given (OutFault channel) old new end = (end.at, end.stopped)

-- what was met, by events that go on from what the ticker has seen
pub ticks_end : (given : List Event) (met : TickEnd) (old new : PassView) (came : List Event) → EndsPass given met old new → IsPrefix new.seen came → ticks came ≡ ticks new.seen
    → TicksEndBy (given ++ came) met
ticks_end given ClockClosed old new came end grows same = tt
ticks_end given (Ended at) old new came end grows same = stop_stays (given ++ new.seen) (given ++ came) at (prefix_after given new.seen came grows) end.0
ticks_end given TicksOver old new came end grows same = omega (arith, ticks-append given came, ticks-append given new.seen, same, end.1)
ticks_end given ClockFault old new came end grows same = tt
ticks_end given (OutFault channel) old new came end grows same = tt

-- the outputs took the frames of each history that goes on without a tick
pub written_later : {O : Type 0} (state : O → SinkState) (beginning : Beginning) (seen history : List Event) → GoesOn seen history → (ticker : TickEnd) (olds news : List O)
    → AreWritten state ticker (shown_from beginning seen) olds news → AreWritten state ticker (shown_from beginning history) olds news
written_later {O} state beginning seen history on = go
  where
    takes : (olds news : List O) → AllTakeFrames state (shown_from beginning seen) olds news → AllTakeFrames state (shown_from beginning history) olds news
    takes olds news all = still_taken state beginning seen history olds news on all

    go : (ticker : TickEnd) (olds news : List O) → AreWritten state ticker (shown_from beginning seen) olds news → AreWritten state ticker (shown_from beginning history) olds news
    go ClockClosed olds news all = takes olds news all
    go (Ended at) olds news all = takes olds news all
    go TicksOver olds news all = takes olds news all
    go ClockFault olds news all = takes olds news all
    go (OutFault failed) olds news cut = record {
      before = cut.before;
      after = cut.after ++ on.rest;
      whole = sym (append_assoc cut.before (Tick ∷ cut.after) on.rest) ∙ ap (λ (l : List Event). l ++ on.rest) cut.whole ∙ on.whole;
      few = omega (arith, cut.few, ticks-append cut.after on.rest, on.quiet);
      outs = cut.outs;
    }
