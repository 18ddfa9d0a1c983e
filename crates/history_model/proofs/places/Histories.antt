-- The live places of a channel after a history.
use Rattle.std.proofs.Common.{◌≡◌, ℕ, List, [], ◌∷◌, map, refl, All}
use Rattle.std.proofs.lemmas.List.Elements.{All-from_recursion}
use Rattle.std.specs.List.{AllByRecursion}
use Rattle.play_types.specs.History.{ticks}
use Rattle.play_types.specs.declared.event.Event.{Event}
use Rattle.history_model.specs.stage.Act.{Act}
use Rattle.history_model.specs.stage.Acts.{acts}
use Rattle.history_model.specs.stage.Life.{Life}
use Rattle.history_model.specs.stage.Live.{live_layers, state}
use Rattle.history_model.specs.stage.Places.{place_at, places}

-- there are no live places before the first event
pub places-start : (channel : ℕ) → places [] channel ≡ []
unfolding places acts
places-start channel = refl

-- each place of the list is what its layer holds
all_chosen : (acts : List Act) (t channel : ℕ) (numbers : List ℕ) →
    AllByRecursion (λ (place : ℕ × Life). place.1 ≡ state acts t (record { channel = channel; layer = place.0 })) (map (place_at acts t channel) numbers)
all_chosen acts t channel [] = tt
all_chosen acts t channel (layer ∷ numbers) = (refl, all_chosen acts t channel numbers)

pub places-states : (history : List Event) (channel : ℕ) →
    All (λ (place : ℕ × Life). place.1 ≡ state (acts history) (ticks history) (record { channel = channel; layer = place.0 })) (places history channel)
unfolding places
places-states history channel =
    All-from_recursion (λ (place : ℕ × Life). place.1 ≡ state (acts history) (ticks history) (record { channel = channel; layer = place.0 }))
    (places history channel) (all_chosen (acts history) (ticks history) channel (live_layers (acts history) (ticks history) channel))
