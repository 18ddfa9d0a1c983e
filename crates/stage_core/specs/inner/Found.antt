-- The index of a layer in a list of places, and the invariant of a list.
use Rattle.std.specs.Prelude.{◌≡◌, ℕ, ◌+◌, ◌<◌, ◌≤◌, [], ◌∷◌, length, slice_index_or}
use Rattle.play_types.specs.declared.place.TheConstants.{MAX_LAYER, MAX_LIVE_LAYERS}
use Rattle.history_model.specs.stage.Life.{Life, empty_place}
use Rattle.history_model.specs.stage.Places.{ArePlaces, Places}

-- each place has a layer number that a channel may have
abbrev pub AreLayers : Places → Type 0
AreLayers [] = Unit {0}
AreLayers (place ∷ more) = (place.0 ≤ MAX_LAYER) × AreLayers more

-- a list of places with its length and its room: it has at most three more than a channel may have, and room for all of
-- them
pub record AreKept (places : Places) (len room : ℕ) : Type 0 where
  pub rising : ArePlaces places
  pub layers : AreLayers places
  pub counted : length places ≡ len
  pub few : len ≤ MAX_LIVE_LAYERS + 3
  pub roomy : MAX_LIVE_LAYERS + 3 ≤ room

-- the place at an index of a list: the number of its layer, and the layer
abbrev pub place_in : Places → ℕ → ℕ × Life
place_in places index = slice_index_or places index (0, empty_place)

-- the place at the index has this layer number
pub record IsAt (places : Places) (layer index : ℕ) : Type 0 where
  pub in_range : index < length places
  pub has_layer : (place_in places index).0 ≡ layer

-- the layer would be inserted at the index: lower layers are before it, and higher ones from it on
pub record IsGapFor (places : Places) (layer index : ℕ) : Type 0 where
  pub in_range : index ≤ length places
  pub lower : (other : ℕ) → other < index → (place_in places other).0 < layer
  pub higher : (other : ℕ) → index ≤ other → other < length places → layer < (place_in places other).0
