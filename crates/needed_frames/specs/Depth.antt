-- How far back frames are needed. A history that is called `back` is read backward, its last event first.
use Rattle.std.specs.Prelude.{ℕ, ◌+◌, max, nat_lt, if◌then◌else◌, List, [], ◌∷◌, ◌++◌, flat_map, map, reverse}
use Rattle.std.specs.List.{range_with_len}
use Rattle.play_types.specs.declared.drawn.Drawn.{Drawn}
use Rattle.play_types.specs.declared.drawn.Still.{Still}
use Rattle.play_types.specs.declared.drawn.Still.TheVariants.{Nothing, Colour, Frame, Channel}
use Rattle.play_types.specs.declared.event.Event.{Event}
use Rattle.play_types.specs.declared.event.Event.TheVariants.{Do, Batch, Tick, Stop}
use Rattle.history_model.specs.pictures.Scene.{scene_back}

-- the channel whose frame of the tick before is this picture, or none
abbrev pub channel_of : Still → List ℕ
channel_of Nothing = []
channel_of (Colour value) = []
channel_of (Frame id frame) = []
channel_of (Channel channel) = channel ∷ []

-- the channels that a drawn layer shows: by its picture, and by the picture that its transition replaces, while that runs
abbrev pub layer_channels : Drawn → List ℕ
layer_channels layer =
    if nat_lt layer.step layer.trans.duration then channel_of layer.old ++ channel_of layer.still else channel_of layer.still

-- the channels that drawn layers show
abbrev pub shown_channels : List Drawn → List ℕ
shown_channels layers = flat_map layer_channels layers

-- the greatest of some numbers, 0 if there is none
abbrev pub greatest : List ℕ → ℕ
greatest [] = 0
greatest (number ∷ numbers) = max number (greatest numbers)

-- the depth of these channels, by that of each: 0 if there is none, and otherwise one more than the greatest
abbrev pub depth_behind : (ℕ → ℕ) → List ℕ → ℕ
depth_behind depth channels = greatest (map (λ channel. depth channel + 1) channels)

-- the depth of a channel at the last tick of a history read backward: how many ticks back the first one is whose frames the frame of the
-- channel needs. It needs the frames that the channels it shows had at the tick before; if it shows none, the depth is 0
abbrev pub depth_back : List Event → ℕ → ℕ
depth_back [] channel = 0
depth_back (Do tag cmd ∷ before) channel = depth_back before channel
depth_back (Batch tag cmds ∷ before) channel = depth_back before channel
depth_back (Tick ∷ before) channel = depth_behind (depth_back before) (shown_channels (scene_back before channel))
depth_back (Stop tag ∷ before) channel = depth_back before channel

-- the depth of a channel at the last tick of a history, 0 if it has no tick
unfoldable pub last_depth : List Event → ℕ → ℕ
last_depth history channel = depth_back (reverse history) channel

-- the greatest depth of channels 1 to `channels` at the last tick of a history
abbrev pub greatest_depth : ℕ → List Event → ℕ
greatest_depth channels history = greatest (map (last_depth history) (range_with_len 1 channels))

-- the depth of a channel at the tick after a history
unfoldable pub depth : List Event → ℕ → ℕ
depth history channel = depth_back (Tick ∷ reverse history) channel
