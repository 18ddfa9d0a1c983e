-- Scenes with layers added.
use Rattle.std.specs.Prelude.{ℕ, List, ◌++◌}
use Rattle.play_types.specs.ChannelItems.{with_channel_item}
use Rattle.play_types.specs.Scene.{scene_at}
use Rattle.play_types.specs.declared.drawn.Drawn.{Drawn}

-- the scenes with layers added above those of a channel
abbrev pub with_layers : ℕ → List Drawn → List (List Drawn) → List (List Drawn)
with_layers channel layers scenes = with_channel_item channel (scene_at channel scenes ++ layers) scenes
