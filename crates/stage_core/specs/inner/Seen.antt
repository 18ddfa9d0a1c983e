-- What is seen of a layer, computed from its stored state.
use Rattle.std.specs.Prelude.{ℕ, min, Option, option_map}
use Rattle.play_types.specs.Playhead.{head}
use Rattle.history_model.specs.stage.Life.{Life}
use Rattle.history_model.specs.stage.StageHistory.{foreground_of}
use Rattle.layer_state.specs.declared.front.Front.{Front}
use Rattle.stage_core.specs.Seen.{layer_view}
use Rattle.stage_core.specs.declared.seen.LayerView.{LayerView}

-- what is seen of a layer, by its foreground without the content that this replaces
abbrev pub view_of : ℕ → Front → LayerView
view_of layer front = record {
  layer = layer;
  spec = front.take.spec;
  frame = head front.take front.shown;
  seek = front.take.seek;
  length = front.take.length;
  looped = front.take.looped;
  paused = front.paused;
  trans = front.take.trans;
  step = min front.shown front.take.trans.duration;
}

-- what is seen of a live place, none without a foreground
abbrev pub seen_of : ℕ × Life → Option LayerView
seen_of place = option_map (layer_view place.0) (foreground_of place)
