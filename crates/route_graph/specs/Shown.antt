-- What the places of channels show at a tick.
use Rattle.std.specs.Prelude.{ℕ, ◌==◌, List, [], ◌∷◌, Option, option_map, if◌then◌else◌}
use Rattle.std.specs.List.{find}
use Rattle.play_types.specs.ChannelItems.{channel_item, with_channel_item}
use Rattle.play_types.specs.Place.{PlaceView}
use Rattle.play_types.specs.declared.take.Spec.{Spec}

-- a producer, and the frame of it that is shown
abbrev pub Picture : Type 0
Picture = Spec × ℕ

-- what each place shows at a tick, none if it shows nothing
abbrev pub Pictures : Type 0
Pictures = PlaceView → Option Picture

-- the layers of a channel that show something at a tick, each once, with its picture
abbrev pub ShownLayers : Type 0
ShownLayers = List (ℕ × Picture)

-- the layers after one shows this picture, in place of the one that it showed
abbrev pub with_shown : ℕ → Picture → ShownLayers → ShownLayers
with_shown layer picture [] = (layer, picture) ∷ []
with_shown layer picture (shown ∷ more) =
    let rest = with_shown layer picture more in
    if shown.0 == layer then (layer, picture) ∷ more else shown ∷ rest

-- the picture of a layer, none if it shows nothing
abbrev pub shown_on : ShownLayers → ℕ → Option Picture
shown_on layers layer = option_map (λ (shown : ℕ × Picture). shown.1) (find (λ (shown : ℕ × Picture). shown.0 == layer) layers)

-- the layers of a channel
abbrev pub layers_of : ℕ → List ShownLayers → ShownLayers
layers_of channel tick = channel_item channel tick []

-- a tick after a place shows this picture, in place of the one that it showed
abbrev pub with_picture : PlaceView → Picture → List ShownLayers → List ShownLayers
with_picture place picture tick =
    with_channel_item place.channel (with_shown place.layer picture (layers_of place.channel tick)) tick

-- what each place shows at a tick
abbrev pub shown_at : List ShownLayers → Pictures
shown_at tick = λ place. shown_on (layers_of place.channel tick) place.layer
