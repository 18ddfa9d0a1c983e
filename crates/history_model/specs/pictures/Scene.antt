-- What a channel shows at a tick: its drawn layers.
use Rattle.std.specs.Prelude.{ℕ, ◌+◌, min, Bool, List, ℤ, Option, Some, None, option_map, filter_map, reverse, if◌then◌else◌}
use Rattle.std.specs.Ordering.{int_eq}
use Rattle.play_types.specs.Place.{PlaceView}
use Rattle.play_types.specs.Setting.{number_at}
use Rattle.play_types.specs.History.{ticks}
use Rattle.play_types.specs.Playhead.{head}
use Rattle.play_types.specs.declared.setting.TheConstants.{MICROS_PER_UNIT}
use Rattle.play_types.specs.declared.setting.Prop.TheVariants.{Opacity, Fill, Clip, Volume, Keyer}
use Rattle.play_types.specs.declared.event.Event.{Event}
use Rattle.play_types.specs.declared.drawn.Still.{Still}
use Rattle.play_types.specs.declared.drawn.Still.TheVariants.{Nothing}
use Rattle.play_types.specs.declared.drawn.Drawn.{Drawn}
use Rattle.history_model.specs.stage.Act.{Act}
use Rattle.history_model.specs.stage.Life.{Foreground, Outgoing}
use Rattle.history_model.specs.stage.Live.{layers, foreground_at}
use Rattle.history_model.specs.stage.Acts.{acts_back}
use Rattle.history_model.specs.stage.Value.{value_at}
use Rattle.history_model.specs.pictures.Source.{last_foregrounds, source}
use Rattle.history_model.specs.pictures.Easing.{eased}

-- the ticks that an outgoing content was shown, once the one that replaced it was shown for `shown` ticks
abbrev pub outgoing_shown : Outgoing → ℕ → ℕ
outgoing_shown old shown = if old.paused then old.shown else old.shown + shown

-- what the outgoing content shows then, by the foregrounds at the tick before
abbrev pub outgoing_still : Option (PlaceView → Option Foreground) → Option Outgoing → ℕ → Still
outgoing_still foregrounds None shown = Nothing
outgoing_still foregrounds (Some old) shown = source foregrounds old.take.spec (head old.take (outgoing_shown old shown))

-- whether the value of a keyer is 1
abbrev pub is_one : ℤ → Bool
is_one value = int_eq value MICROS_PER_UNIT

-- the step of a foreground's transition at the next tick, at most its duration
abbrev pub step_of : Foreground → ℕ
step_of foreground = min (foreground.shown + 1) foreground.take.trans.duration

-- a place with this foreground at the tick after `ticks` ticks: both pictures, the transition and the step that are drawn, and
-- the mixer values
abbrev pub drawn_place : List Act → ℕ → Option (PlaceView → Option Foreground) → PlaceView → Foreground → Drawn
drawn_place acts ticks foregrounds place foreground = record {
  still = source foregrounds foreground.take.spec (head foreground.take foreground.shown);
  old = outgoing_still foregrounds foreground.old foreground.shown;
  trans = (eased foreground.take.trans (step_of foreground)).0;
  step = (eased foreground.take.trans (step_of foreground)).1;
  opacity = number_at (value_at acts place Opacity (ticks + 1)) 0;
  fill = value_at acts place Fill (ticks + 1);
  clip = value_at acts place Clip (ticks + 1);
  volume = number_at (value_at acts place Volume (ticks + 1)) 0;
  keyer = is_one (number_at (value_at acts place Keyer (ticks + 1)) 0);
}

-- a layer of a channel at that tick, none if it is not drawn
abbrev pub drawn_layer : List Act → ℕ → Option (PlaceView → Option Foreground) → ℕ → ℕ → Option Drawn
drawn_layer acts ticks foregrounds channel layer =
    let place : PlaceView = record { channel = channel; layer = layer } in
    option_map (drawn_place acts ticks foregrounds place) (foreground_at acts ticks place)

-- the drawn layers of a channel at that tick, in rising number
abbrev pub scene_of : List Act → ℕ → Option (PlaceView → Option Foreground) → ℕ → List Drawn
scene_of acts ticks foregrounds channel = filter_map (drawn_layer acts ticks foregrounds channel) (layers acts)

-- the drawn layers of a channel at the tick after a history that is read backward, its last event first
abbrev pub scene_back : List Event → ℕ → List Drawn
scene_back back channel = scene_of (acts_back back) (ticks back) (last_foregrounds back) channel

-- the drawn layers of a channel at the tick after a history, in rising number
unfoldable pub scene : List Event → ℕ → List Drawn
scene history channel = scene_back (reverse history) channel
