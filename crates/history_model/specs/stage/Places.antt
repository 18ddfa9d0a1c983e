-- For proofs: the live places of a channel as one list, and what a command on a place and a tick make of it. Laws prove that it
-- agrees with the trails and lives of the places.
use Rattle.std.specs.Prelude.{◌≡◌, ℕ, ◌<◌, ◌≤◌, ◌==◌, Bool, true, List, [], ◌∷◌, map, nat_lt, length, if◌then◌else◌}
use Rattle.play_types.specs.Place.{PlaceView}
use Rattle.play_types.specs.History.{ticks}
use Rattle.play_types.specs.declared.place.TheConstants.{MAX_LIVE_LAYERS}
use Rattle.play_types.specs.declared.command.Cmd.{Cmd}
use Rattle.play_types.specs.declared.event.Event.{Event}
use Rattle.history_model.specs.stage.Act.{Act}
use Rattle.history_model.specs.stage.Acts.{acts}
use Rattle.history_model.specs.stage.Life.{Life, after, effect, empty_place}
use Rattle.history_model.specs.stage.Live.{is_live, live_layers, state}

-- layers, each with what it holds
abbrev pub Places : Type 0
Places = List (ℕ × Life)

-- a layer of a channel with what it holds after the acts and `ticks` ticks
abbrev pub place_at : List Act → ℕ → ℕ → ℕ → ℕ × Life
place_at acts ticks channel layer = (layer, state acts ticks (record { channel = channel; layer = layer }))

-- the live layers of a channel after the acts and `ticks` ticks, each with what it holds, in rising layer
abbrev pub live_places : List Act → ℕ → ℕ → Places
live_places acts ticks channel = map (place_at acts ticks channel) (live_layers acts ticks channel)

-- the live layers of a channel after a history, each with what it holds, in rising layer
unfoldable pub places : List Event → ℕ → Places
places history channel = live_places (acts history) (ticks history) channel

-- each layer of the list is above this one
abbrev pub AreAbove : ℕ → Places → Type 0
AreAbove layer [] = Unit {0}
AreAbove layer (place ∷ more) = (layer < place.0) × AreAbove layer more

-- the layers rise, and each place is live
abbrev pub ArePlaces : Places → Type 0
ArePlaces [] = Unit {0}
ArePlaces (place ∷ more) = (is_live place.1 ≡ true) × AreAbove place.0 more × ArePlaces more

-- what a layer holds by the list: nothing if the list lacks it
abbrev pub standing : Places → ℕ → Life
standing [] layer = empty_place
standing (place ∷ more) layer = if place.0 == layer then place.1 else standing more layer

-- a layer in front of others, left out if it is not live
abbrev pub in_front : ℕ → Life → Places → Places
in_front layer life more = if is_live life then (layer, life) ∷ more else more

-- the list with this life at a layer, and unchanged at the others
abbrev pub with_place : Places → ℕ → Life → Places
with_place [] layer life = in_front layer life []
with_place (place ∷ more) layer life =
    let rest = with_place more layer life in
    if place.0 == layer then in_front layer life more
    else (if nat_lt layer place.0 then in_front layer life (place ∷ more) else place ∷ rest)

-- the places of a channel after a command on a place, by those before it
abbrev pub changed_at : PlaceView → Cmd → ℕ → Places → Places
changed_at at cmd channel before =
    if at.channel == channel then with_place before at.layer (effect cmd (standing before at.layer)) else before

-- a layer with what it holds one tick later
abbrev pub one_tick_later : ℕ × Life → ℕ × Life
one_tick_later place = (place.0, after place.1 1)

-- no act comes after more than `ticks` ticks
abbrev pub AreBy : ℕ → List Act → Type 0
AreBy ticks [] = Unit {0}
AreBy ticks (act ∷ before) = (act.ticks ≤ ticks) × AreBy ticks before

-- whether the list has more places than a channel may have
abbrev pub is_over_limit : Places → Bool
is_over_limit places = nat_lt MAX_LIVE_LAYERS (length places)
