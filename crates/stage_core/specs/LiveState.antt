-- The live places of all channels and the numbers of their waiting settings, as lists, and the effect of commands on them.
use Rattle.std.specs.Prelude.{◌≡◌, ℕ, ◌+◌, ◌-◌, Bool, false, ◌&&◌, ◌||◌, List, [], ◌∷◌, length, map, nat_le, if◌then◌else◌}
use Rattle.std.specs.List.{list_any, swap}
use Rattle.play_types.specs.ChannelItems.{channel_item, with_channel_item}
use Rattle.play_types.specs.Place.{PlaceView}
use Rattle.play_types.specs.Scene.{IsConfigured}
use Rattle.play_types.specs.Setting.{SettingView}
use Rattle.play_types.specs.declared.place.TheConstants.{MAX_CHANNELS}
use Rattle.play_types.specs.declared.setting.TheConstants.{MAX_WAITING_SETTINGS}
use Rattle.play_types.specs.Shape.{shape_of}
use Rattle.play_types.specs.declared.command.Cmd.{Cmd}
use Rattle.play_types.specs.declared.shape.CommandShape.TheVariants as shape
use Rattle.history_model.specs.stage.Life.{Life, effect}
use Rattle.history_model.specs.stage.Places.{Places, is_over_limit, one_tick_later, standing, with_place}
use Rattle.history_model.specs.stage.StageState.{StageState}

-- the live places of each channel, channel 1 first
abbrev pub Channels : Type 0
Channels = List Places

-- the live places of a channel
abbrev pub places_of : ℕ → Channels → Places
places_of channel channels = channel_item channel channels []

-- the layer at a place
abbrev pub life_at : PlaceView → Channels → Life
life_at place channels = standing (places_of place.channel channels) place.layer

-- the channels with this layer at a place
abbrev pub with_life : PlaceView → Life → Channels → Channels
with_life place life channels =
    with_channel_item place.channel (with_place (places_of place.channel channels) place.layer life) channels

-- the channels after the places a and b are exchanged
abbrev pub with_exchanged : PlaceView → PlaceView → Channels → Channels
with_exchanged a b channels = with_life b (life_at a channels) (with_life a (life_at b channels) channels)

-- whether some channel has more live places than it may have
abbrev pub is_some_over : Channels → Bool
is_some_over channels = list_any is_over_limit channels

-- the channels after a change, or those before it if some channel would have too many live places
abbrev pub kept_within : Channels → Channels → Channels
kept_within after before = if is_some_over after then before else after

-- the channels after a command on a place
abbrev pub changed_place : PlaceView → Cmd → Channels → Channels
changed_place at cmd channels = with_life at (effect cmd (life_at at channels)) channels

-- the live places of each channel, and how many settings wait on it
pub record LiveView : Type 0 where
  pub places : Channels
  pub waiting : List ℕ

-- how many settings wait on a channel
abbrev pub count_of : ℕ → List ℕ → ℕ
count_of channel waiting = channel_item channel waiting 0

-- whether a setting is deferred and as many settings wait on its channel as may
abbrev pub is_full_for : SettingView → List ℕ → Bool
is_full_for setting waiting = setting.deferred && nat_le MAX_WAITING_SETTINGS (count_of setting.place.channel waiting)

-- the numbers of waiting settings with one setting more, if it is deferred
abbrev pub with_setting : SettingView → List ℕ → List ℕ
with_setting setting waiting =
    if setting.deferred then with_channel_item setting.place.channel (count_of setting.place.channel waiting + 1) waiting else waiting

-- whether a command is refused
abbrev pub is_refused_on : Cmd → LiveView → Bool
is_refused_on cmd live = elim (shape_of cmd) [
  | shape.Take at take ↦ is_some_over (changed_place at cmd live.places)
  | shape.Change at ↦ is_some_over (changed_place at cmd live.places)
  | shape.ClearChannel channel ↦ false
  | shape.SwapLayers a b transforms ↦ is_some_over (with_exchanged a b live.places)
  | shape.SwapChannels a b transforms ↦ false
  | shape.Set setting ↦ is_full_for setting live.waiting
  | shape.CommitMixer channel ↦ false
  | shape.Reset target ↦ false
  | shape.Record mark ↦ false
  | shape.Ask query ↦ false
]

-- the live state after a command that is not refused
abbrev pub live_with : Cmd → LiveView → LiveView
live_with cmd live = elim (shape_of cmd) [
  | shape.Take at take ↦ record live { places = changed_place at cmd live.places }
  | shape.Change at ↦ record live { places = changed_place at cmd live.places }
  | shape.ClearChannel channel ↦ record live { places = with_channel_item channel [] live.places }
  | shape.SwapLayers a b transforms ↦ record live { places = with_exchanged a b live.places }
  | shape.SwapChannels a b transforms ↦ record live { places = swap live.places (a - 1) (b - 1) }
  | shape.Set setting ↦ record live { waiting = with_setting setting live.waiting }
  | shape.CommitMixer channel ↦ record live { waiting = with_channel_item channel 0 live.waiting }
  | shape.Reset target ↦ live
  | shape.Record mark ↦ live
  | shape.Ask query ↦ live
]

-- the live state after a command: as before if it is refused
abbrev pub kept_state : Cmd → LiveView → LiveView
kept_state cmd live = if is_refused_on cmd live then live else live_with cmd live

-- the live state after all commands, none of which is refused
abbrev pub live_with_all : List Cmd → LiveView → LiveView
live_with_all [] live = live
live_with_all (cmd ∷ cmds) live = live_with_all cmds (live_with cmd live)

-- whether one of the commands is refused after the ones before it
abbrev pub some_is_refused_on : List Cmd → LiveView → Bool
some_is_refused_on [] live = false
some_is_refused_on (cmd ∷ cmds) live = is_refused_on cmd live || some_is_refused_on cmds (live_with cmd live)

-- the live state one tick later
abbrev pub live_one_tick_later : LiveView → LiveView
live_one_tick_later live = record live { places = map (map one_tick_later) live.places }

-- a live state of `channels` channels shows a stage
pub record ShowsStage (channels : ℕ) (live : LiveView) (state : StageState) : Type 0 where
  pub count : length live.places ≡ channels
  pub counts : length live.waiting ≡ MAX_CHANNELS
  pub few : is_some_over live.places ≡ false
  pub places : (channel : ℕ) → IsConfigured channels channel → places_of channel live.places ≡ state.places channel
  pub waiting : (channel : ℕ) → IsConfigured channels channel → count_of channel live.waiting ≡ state.waiting channel
