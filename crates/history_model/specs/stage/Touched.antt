-- Which commands touch the content of a place, for the laws on trails.
use Rattle.std.specs.Prelude.{◌==◌, Bool, false, ◌||◌, List}
use Rattle.std.specs.List.{list_any}
use Rattle.play_types.specs.Place.{PlaceView}
use Rattle.play_types.specs.Shape.{shape_of}
use Rattle.play_types.specs.declared.command.Cmd.{Cmd}
use Rattle.play_types.specs.declared.shape.CommandShape.TheVariants as shape
use Rattle.history_model.specs.stage.Act.{Act}
use Rattle.history_model.specs.stage.Trail.{same_place}

-- whether a command acts on the content of a place, or swaps the place or its channel
abbrev pub touches : Cmd → PlaceView → Bool
touches cmd place = elim (shape_of cmd) [
  | shape.Take at take ↦ same_place at place
  | shape.Change at ↦ same_place at place
  | shape.ClearChannel channel ↦ channel == place.channel
  | shape.SwapLayers a b transforms ↦ same_place place a || same_place place b
  | shape.SwapChannels a b transforms ↦ place.channel == a || place.channel == b
  | shape.Set setting ↦ false
  | shape.CommitMixer channel ↦ false
  | shape.Reset target ↦ false
  | shape.Record mark ↦ false
  | shape.Ask query ↦ false
]

-- whether some act touches the place
abbrev pub some_touches : List Act → PlaceView → Bool
some_touches acts place = list_any (λ (act : Act). touches act.cmd place) acts
