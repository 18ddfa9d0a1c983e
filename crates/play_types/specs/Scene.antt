-- What contracts see of scenes: for each channel the list of its drawn layers, the lowest first.
use Rattle.std.specs.Prelude.{◌≡◌, ℕ, ◌<◌, ◌≤◌, ◌⊎◌, List, [], ◌∷◌, ◌++◌, length, All}
use Rattle.play_types.specs.ChannelItems.{channel_item, with_channel_item}
use Rattle.play_types.specs.Setting.{AreValues}
use Rattle.play_types.specs.declared.place.TheConstants.{MAX_CHANNELS, MAX_LIVE_LAYERS}
use Rattle.play_types.specs.declared.setting.Prop.TheVariants.{Opacity, Fill, Clip, Volume}
use Rattle.play_types.specs.declared.drawn.Still.{Still}
use Rattle.play_types.specs.declared.drawn.Still.TheVariants.{Nothing, Colour, Frame, Channel}
use Rattle.play_types.specs.declared.drawn.Drawn.{Drawn}

-- a channel is one of the first `channels`
abbrev pub IsConfigured : ℕ → ℕ → Type 0
IsConfigured channels channel = (1 ≤ channel) × (channel ≤ channels)

-- the channel whose frame a picture shows, if it shows one, is configured
abbrev pub ShowsConfigured : ℕ → Still → Type 0
ShowsConfigured channels Nothing = Unit {0}
ShowsConfigured channels (Colour value) = Unit {0}
ShowsConfigured channels (Frame id frame) = Unit {0}
ShowsConfigured channels (Channel channel) = IsConfigured channels channel

-- so are the channels whose frames the two pictures of a layer show
abbrev pub NamesConfigured : ℕ → Drawn → Type 0
NamesConfigured channels drawn = ShowsConfigured channels drawn.still × ShowsConfigured channels drawn.old

-- the mixer values of a layer are in their ranges, and its transition, if it takes time, has begun
pub record IsDrawn (drawn : Drawn) : Type 0 where
  pub opacity : AreValues Opacity (drawn.opacity ∷ [])
  pub fill : AreValues Fill drawn.fill
  pub clip : AreValues Clip drawn.clip
  pub volume : AreValues Volume (drawn.volume ∷ [])
  pub step : (0 < drawn.step) ⊎ (drawn.trans.duration ≡ 0)

-- at most 64 layers, each in its ranges
pub record IsScene (layers : List Drawn) : Type 0 where
  pub few : length layers ≤ MAX_LIVE_LAYERS
  pub each : All IsDrawn layers

-- 1 to 16 channels, and each that a layer names is one of them
pub record AreScenes (scenes : List (List Drawn)) : Type 0 where
  pub some_channels : 1 ≤ length scenes
  pub channels : length scenes ≤ MAX_CHANNELS
  pub names : All (All (NamesConfigured (length scenes))) scenes

-- the layers of a channel
abbrev pub scene_at : ℕ → List (List Drawn) → List Drawn
scene_at channel scenes = channel_item channel scenes []

-- the scenes with one more layer, above the others of a channel
abbrev pub with_layer : ℕ → Drawn → List (List Drawn) → List (List Drawn)
with_layer channel drawn scenes = with_channel_item channel (scene_at channel scenes ++ drawn ∷ []) scenes
