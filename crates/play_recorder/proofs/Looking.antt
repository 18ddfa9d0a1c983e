-- A look at the frames that a film needs goes on, event by event.
use Rattle.std.proofs.Common.{◌≡◌, ℕ, ◌+◌, ◌-◌, ◌≤◌, min, Bool, true, false, cond, List, ◌∷◌, sym, ap, ◌∙◌}
use Rattle.std.specs.Prelude.{nat_le, ◌&&◌}
use Rattle.std.proofs.lemmas.Bool.{leb-true}
use Rattle.play_types.specs.History.{ticks}
use Rattle.play_types.specs.declared.event.Event.{Event}
use Rattle.play_types.specs.declared.event.Event.TheVariants.{Tick}
use Rattle.history_model.specs.recordings.Film.{Span}
use Rattle.stage_core.specs.Stage.{StageView, after_event}
use Rattle.needed_frames.specs.Depth.{depth}
use Rattle.play_recorder.specs.Recording.{is_recorded}
use Rattle.play_recorder.specs.declared.first_needed.Look.{Look}
use Rattle.play_recorder.specs.inner.Depths.{KnowsDepths}
use Rattle.play_recorder.specs.inner.Needed.{first_needed, least_at, least_needed}
use Rattle.play_recorder.specs.inner.Recorder.{is_over}
use Rattle.play_recorder.specs.inner.Replay.{events_in}
use Rattle.play_recorder.proofs.Needed.{needed_first, none_needed}
use Rattle.play_recorder.proofs.Playing.{IsPlayedTo, one_played}

-- the last recorded tick was played: what is left needs nothing more
second_holds : (x y : Bool) → (x && y) ≡ true → y ≡ true
second_holds true y e = e
second_holds false y e = cc

pub look_over : (span : Span) (events : List Event) (look : Look) (left : List Event)
    → first_needed span events ≡ least_needed span (events_in look.replay.played) left look.first → is_over span (ticks (events_in look.replay.played)) ≡ true
    → look.first ≡ first_needed span events
look_over span events look left first over =
    let past = events_in look.replay.played in
    let behind : span.first + span.frames ≤ ticks past =
    leb-true (span.first + span.frames) (ticks past) (second_holds (nat_le span.first (ticks past)) (nat_le (span.first + span.frames) (ticks past)) over) in
    sym (first ∙ none_needed span past left look.first behind)

-- what a recorded tick needs is taken into account
pub needed_at_tick : (span : Span) (past : List Event) (first before deep result : ℕ) → before ≡ ticks past → is_recorded span before ≡ true
    → deep ≡ depth past span.channel → result ≡ min (before - deep) first → result ≡ least_at span past Tick first
needed_at_tick span past first before deep result time recorded deep_is least =
    let here : is_recorded span (ticks past) ≡ true = ap (is_recorded span) (sym time) ∙ recorded in
    least ∙ (λ i. min (time i - deep_is i) first) ∙ sym (ap (λ b. cond b (min (ticks past - depth past span.channel) first) first) here)

-- what the next event needs is taken into account
pub one_looked : (span : Span) (stage : StageView) (events : List Event) (look : Look) (event : Event) (left : List Event) (new : Look)
    → look.film.now ≡ span → IsPlayedTo stage events look.replay.played.stage (event ∷ left)
    → first_needed span events ≡ least_needed span (events_in look.replay.played) (event ∷ left) look.first
    → KnowsDepths new.replay → new.replay.played.stage ≡ after_event event look.replay.played.stage → new.film.now ≡ look.film.now
    → new.first ≡ least_at look.film.now (events_in look.replay.played) event look.first
    → (KnowsDepths new.replay) × (new.film.now ≡ span) × (IsPlayedTo stage events new.replay.played.stage left)
    × (first_needed span events ≡ least_needed span (events_in new.replay.played) left new.first)
one_looked span stage events look event left new film played first is made same least = (
  is,
  same ∙ film,
  one_played stage events look.replay.played.stage event left played new.replay.played.stage made,
  first ∙ needed_first span (events_in look.replay.played) event left look.first
      ∙ (λ i. least_needed span ((sym (ap (λ (s : StageView). s.journal.events) made)) i) left
      ((ap (λ film. least_at film (events_in look.replay.played) event look.first) (sym film) ∙ sym least) i)),
)
