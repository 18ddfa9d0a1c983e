-- Where the content of a place and its mixer values came from. Lists of acts have the last act first.
use Rattle.std.specs.Prelude.{ℕ, ◌==◌, Bool, false, ◌&&◌, List, [], ◌∷◌, if◌then◌else◌}
use Rattle.play_types.specs.Place.{PlaceView}
use Rattle.play_types.specs.Shape.{shape_of}
use Rattle.play_types.specs.declared.command.Cmd.{Cmd}
use Rattle.play_types.specs.declared.shape.CommandShape.TheVariants as shape
use Rattle.play_types.specs.declared.shape.Target.{Target}
use Rattle.play_types.specs.declared.shape.Target.TheVariants as target
use Rattle.history_model.specs.stage.Act.{Act}

-- whether two places are equal, in channel and in layer
abbrev pub same_place : PlaceView → PlaceView → Bool
same_place a b = (a.channel == b.channel) && (a.layer == b.layer)

-- whether a target is this place, or its channel
abbrev pub covers : Target → PlaceView → Bool
covers (target.Layer at) place = same_place at place
covers (target.Channel channel) place = channel == place.channel

-- the place that a place is exchanged with if the places a and b are: another place stays
abbrev pub swapped_place : PlaceView → PlaceView → PlaceView → PlaceView
swapped_place a b place = if same_place place a then b else (if same_place place b then a else place)

-- the place that a place is exchanged with if all layers of the channels a and b are: a place of another channel stays
abbrev pub channel_swapped_place : ℕ → ℕ → PlaceView → PlaceView
channel_swapped_place a b place =
    if place.channel == a then record place { channel = b }
    else (if place.channel == b then record place { channel = a } else place)

-- where the content that a place holds after a command was before it
abbrev pub content_origin : Cmd → PlaceView → PlaceView
content_origin cmd place = elim (shape_of cmd) [
  | shape.Take at take ↦ place
  | shape.Change at ↦ place
  | shape.ClearChannel channel ↦ place
  | shape.SwapLayers a b transforms ↦ swapped_place a b place
  | shape.SwapChannels a b transforms ↦ channel_swapped_place a b place
  | shape.Set setting ↦ place
  | shape.CommitMixer channel ↦ place
  | shape.Reset target ↦ place
  | shape.Record mark ↦ place
  | shape.Ask query ↦ place
]

-- where the mixer values that a place has after a command were before it: only a swap with transforms moves them
abbrev pub values_origin : Cmd → PlaceView → PlaceView
values_origin cmd place = elim (shape_of cmd) [
  | shape.Take at take ↦ place
  | shape.Change at ↦ place
  | shape.ClearChannel channel ↦ place
  | shape.SwapLayers a b transforms ↦ if transforms then swapped_place a b place else place
  | shape.SwapChannels a b transforms ↦ if transforms then channel_swapped_place a b place else place
  | shape.Set setting ↦ place
  | shape.CommitMixer channel ↦ place
  | shape.Reset target ↦ place
  | shape.Record mark ↦ place
  | shape.Ask query ↦ place
]

-- whether a command, a swap aside, acts on the content of a place
abbrev pub acts_on_content : Cmd → PlaceView → Bool
acts_on_content cmd place = elim (shape_of cmd) [
  | shape.Take at take ↦ same_place at place
  | shape.Change at ↦ same_place at place
  | shape.ClearChannel channel ↦ channel == place.channel
  | shape.SwapLayers a b transforms ↦ false
  | shape.SwapChannels a b transforms ↦ false
  | shape.Set setting ↦ false
  | shape.CommitMixer channel ↦ false
  | shape.Reset target ↦ false
  | shape.Record mark ↦ false
  | shape.Ask query ↦ false
]

-- whether a command, a swap aside, acts on the mixer values of a place
abbrev pub acts_on_values : Cmd → PlaceView → Bool
acts_on_values cmd place = elim (shape_of cmd) [
  | shape.Take at take ↦ false
  | shape.Change at ↦ false
  | shape.ClearChannel channel ↦ false
  | shape.SwapLayers a b transforms ↦ false
  | shape.SwapChannels a b transforms ↦ false
  | shape.Set setting ↦ same_place setting.place place
  | shape.CommitMixer channel ↦ false
  | shape.Reset target ↦ covers target place
  | shape.Record mark ↦ false
  | shape.Ask query ↦ false
]

-- the acts that pass a test for the place, from the last act to the first: before a swap, the place is the one that it was exchanged with
abbrev pub acts_along : (Cmd → PlaceView → Bool) → (Cmd → PlaceView → PlaceView) → List Act → PlaceView → List Act
acts_along acts_on origin [] place = []
acts_along acts_on origin (act ∷ before) place =
    let earlier = acts_along acts_on origin before (origin act.cmd place) in
    if acts_on act.cmd place then act ∷ earlier else earlier

-- the acts on the content that a place holds after the acts
abbrev pub trail : List Act → PlaceView → List Act
trail acts place = acts_along acts_on_content content_origin acts place

-- the settings and resets of the mixer values of a place, among resolved acts
abbrev pub tuning : List Act → PlaceView → List Act
tuning acts place = acts_along acts_on_values values_origin acts place
