-- What a tick of the shared stage gives for a pulse.
use Rattle.std.proofs.Common.{◌≡◌, ◌⊎◌, ⊎_elim, inl, inr, ℕ, Some, Result, Ok, Err, List, [], ◌∷◌, ◌++◌, length, ap, subst, ◌∙◌}
use Rattle.std.specs.Prelude.{MatchResult}
use Rattle.std.proofs.lemmas.List.FromFn.{length-map-range_with_len}
use Rattle.play_types.specs.History.{stop_at}
use Rattle.play_types.specs.declared.drawn.Drawn.{Drawn}
use Rattle.play_types.specs.declared.event.Event.{Event}
use Rattle.play_types.specs.declared.event.Event.TheVariants.{Tick, Stop}
use Rattle.history_model.specs.pictures.Scene.{scene}
use Rattle.band_render.specs.Histories.{scenes_after}
use Rattle.stage_core.specs.declared.fault.Ended.{Ended as Stopped}
use Rattle.stage_lock.specs.Views.{PassView, Sizes, whole}
use Rattle.stage_lock.specs.Calls.{Adds, IsStopped, IsTicked, Looks, stop_tag}
use Rattle.play_ticker.specs.inner.Loop.{Stops, StopsAt}
use Rattle.scene_pipe.specs.declared.item.Taken.{Taken}
use Rattle.scene_pipe.specs.declared.item.Taken.TheVariants.{Staged}
use Rattle.play_ticker.specs.inner.Items.{staged_item}
use Rattle.play_ticker.specs.inner.Staging.{GetsRoom, Staging, StagesTick}
use Rattle.scene_pipe.specs.Views.{StageView}
use Rattle.play_outside.specs.ClockState.{after_pulse}
use Rattle.play_ticker.specs.declared.ending.TickEnd.{TickEnd}
use Rattle.play_ticker.specs.declared.ending.TickEnd.TheVariants.{ClockClosed, Ended, TicksOver, ClockFault, OutFault}

-- a tick was made, and its set was sent
pub stages_tick : (given : List Event) (old new : Staging) (got : StageView) (sizes : Sizes) (number : ℕ) (drawn : List (List Drawn)) → sizes.given ≡ given → GetsRoom old.pipe got → Adds old.pass Tick (IsTicked sizes number drawn) new.pass
    → new.clock ≡ after_pulse old.clock → new.pipe ≡ record got { sent = got.sent ++ Staged number drawn ∷ [] } → sizes.channels ≡ got.channels → StagesTick given old new
stages_tick given old new got sizes number drawn begun room h clock sent many =
    let told : IsTicked (record sizes { given = given }) number drawn h.history =
    subst (λ (g : List Event). IsTicked (record sizes { given = g }) number drawn h.history) begun h.told in
    let scenes : drawn ≡ scenes_after (given ++ h.history) got.channels = told.scenes ∙ ap (scenes_after (given ++ h.history)) many in
    let item : Staged number drawn ≡ staged_item got.channels (given ++ h.history) = λ i. Staged (told.number i) (scenes i) in
    record {
      got = got;
      room = room;
      tick = record { history = h.history; found = h.found; time = told.time.ticks; after = h.after };
      clock = clock;
      sent = sent ∙ ap (λ (t : Taken). record got { sent = got.sent ++ t ∷ [] }) item;
    }

-- there is a scene for each channel
pub scenes_many : (old new : PassView) (sizes : Sizes) (number : ℕ) (drawn : List (List Drawn)) → Adds old Tick (IsTicked sizes number drawn) new → length drawn ≡ sizes.channels
scenes_many old new sizes number drawn h =
    ap (λ (d : List (List Drawn)). length d) h.told.scenes ∙ length-map-range_with_len (scene (whole sizes h.history)) 1 sizes.channels

-- a stop was made, or another was found
pub stops_either : (given : List Event) (result : Result ℕ Stopped) (old new : PassView)
    → MatchResult result (λ at. Adds old (Stop (stop_tag old.number 0)) (IsStopped given at) new) (λ ended. Looks old (λ history. stop_at (given ++ history) ≡ Some ended.at) new) → Stops given old new
stops_either given (Ok at) old new h = inl (record { history = h.history; found = h.found; told = h.told.running; after = h.after })
stops_either given (Err ended) old new h = inr (ended.at, h)

-- every end but that of a stop that was found stops the stage
pub stops_unless : (given : List Event) (end : TickEnd) (old new : PassView) → (end ≡ ClockClosed) ⊎ ((end ≡ TicksOver) ⊎ ((end ≡ ClockFault) ⊎ ((channel : ℕ) × (end ≡ OutFault channel)))) → Stops given old new → StopsAt given end old new
stops_unless given ClockClosed old new is stops = stops
stops_unless given (Ended at) old new is stops =
    ⊎_elim (λ e. absurd cc) (λ (r : (Ended at ≡ TicksOver) ⊎ ((Ended at ≡ ClockFault) ⊎ ((channel : ℕ) × (Ended at ≡ OutFault channel)))).
    ⊎_elim (λ e. absurd cc) (λ (s : (Ended at ≡ ClockFault) ⊎ ((channel : ℕ) × (Ended at ≡ OutFault channel))).
    ⊎_elim (λ e. absurd cc) (λ (t : (channel : ℕ) × (Ended at ≡ OutFault channel)). let e = t.1 in absurd cc) s) r) is
stops_unless given TicksOver old new is stops = stops
stops_unless given ClockFault old new is stops = stops
stops_unless given (OutFault channel) old new is stops = stops
