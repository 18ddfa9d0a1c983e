-- What a status display shows of the layers of a channel.
use Rattle.std.specs.Prelude.{ℕ, min, List, Option, filter_map, option_map}
use Rattle.play_types.specs.History.{ticks}
use Rattle.play_types.specs.Playhead.{head}
use Rattle.play_types.specs.declared.event.Event.{Event}
use Rattle.history_model.specs.stage.Act.{Act}
use Rattle.history_model.specs.stage.Acts.{acts}
use Rattle.history_model.specs.stage.Answer.{standing_foreground}
use Rattle.history_model.specs.stage.Life.{Foreground}
use Rattle.history_model.specs.stage.Live.{layers}
use Rattle.stage_core.specs.declared.seen.LayerView.{LayerView}

-- what is seen of a layer with this foreground: the producer, the frame at the playhead, the first frame that is played and how
-- many are, whether they are played again and again, whether it is paused, the transition that brought it in, and for how many
-- ticks that was shown, at most its duration. The content that it replaces is not seen
abbrev pub layer_view : ℕ → Foreground → LayerView
layer_view layer foreground = record {
  layer = layer;
  spec = foreground.take.spec;
  frame = head foreground.take foreground.shown;
  seek = foreground.take.seek;
  length = foreground.take.length;
  looped = foreground.take.looped;
  paused = foreground.paused;
  trans = foreground.take.trans;
  step = min foreground.shown foreground.take.trans.duration;
}

-- what is seen of a layer of a channel after the acts and `ticks` ticks, none without a foreground
abbrev pub seen_at : List Act → ℕ → ℕ → ℕ → Option LayerView
seen_at acts ticks channel layer = option_map (layer_view layer) (standing_foreground acts ticks channel layer)

-- what is seen of the layers of a channel that have a foreground after a history, in rising layer
abbrev pub seen_layers : List Event → ℕ → List LayerView
seen_layers history channel = filter_map (seen_at (acts history) (ticks history) channel) (layers (acts history))
