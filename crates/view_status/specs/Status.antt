-- What a viewer shows of a server after a history, as a document of JSON.
use Rattle.std.specs.Prelude.{ℕ, ◌+◌, ◌-◌, ◌==◌, if◌then◌else◌, List, [], ◌∷◌, ◌++◌, length, flat_map, slice_get, Option, Some, None, is_some}
use Rattle.std.specs.List.{enumerate_from}
use Rattle.json.specs.Token.{Token, null}
use Rattle.play_types.specs.Config.{ChannelView, ConfigView}
use Rattle.play_types.specs.History.{stop_at, ticks}
use Rattle.play_types.specs.Media.{MediaNameView}
use Rattle.play_types.specs.Place.{PlaceView}
use Rattle.play_types.specs.Words.{kind_text}
use Rattle.play_types.specs.declared.event.Event.{Event}
use Rattle.play_types.specs.declared.take.Spec.{Spec}
use Rattle.play_types.specs.declared.take.Spec.TheVariants.{Clip, Colour, RouteChannel, RouteLayer}
use Rattle.stage_core.specs.Seen.{seen_layers}
use Rattle.stage_core.specs.declared.seen.LayerView.{LayerView}
use Rattle.view_status.specs.Mixer.{mixer_tokens}
use Rattle.view_status.specs.Producer.{producer_bytes}
use Rattle.view_status.specs.Timecode.{timecode_text}
use Rattle.view_status.specs.Tokens.{array, flag, member, object, text, whole}
use Rattle.view_status.specs.declared.levels.Levels.{Levels}
use Rattle.view_status.specs.declared.status.StatusSource.{StatusSource}

-- what a status is of: the configuration, the names of the clips, the levels of each channel if they are known, and the history
pub record SourceView : Type 0 where
  pub config : ConfigView
  pub names : List MediaNameView
  pub levels : Option (List Levels)
  pub history : List Event

-- how many frames of a clip are played after the one at the playhead: 0 for another producer
abbrev pub frames_left : Spec → LayerView → ℕ
frames_left (Clip id) layer = layer.seek + layer.length - 1 - layer.frame
frames_left (Colour value) layer = 0
frames_left (RouteChannel channel) layer = 0
frames_left (RouteLayer place) layer = 0

-- the transition that brings a layer in, or null once it is over
abbrev pub transition_tokens : LayerView → List Token
transition_tokens layer =
    if layer.step == layer.trans.duration then null ∷ []
    else object (
    member "kind" (text (kind_text layer.trans.kind))
    ∷ member "step" (whole layer.step)
    ∷ member "duration" (whole layer.trans.duration)
    ∷ [])

-- the place of a layer
abbrev pub place_at : ℕ → ℕ → PlaceView
place_at channel layer = record { channel = channel; layer = layer }

-- where in its clip a layer is: the frame at the playhead and the first that is played, both counted from 0, how many are played and
-- how many of these are left, the time since the first, and the time that is left
abbrev pub playhead_members : ℕ → LayerView → List (List Token)
playhead_members rate layer =
    member "frame" (whole layer.frame)
    ∷ member "seek" (whole layer.seek)
    ∷ member "length" (whole layer.length)
    ∷ member "left" (whole (frames_left layer.spec layer))
    ∷ member "time" (text (timecode_text rate (layer.frame - layer.seek)))
    ∷ member "time_left" (text (timecode_text rate (frames_left layer.spec layer)))
    ∷ []

-- a layer of a channel: what it plays, where in its clip it is, its transition, and its mixer properties
unfoldable pub layer_tokens : SourceView → ℕ → LayerView → List Token
layer_tokens source channel layer = object (
    member "layer" (whole layer.layer)
    ∷ member "producer" (text (producer_bytes source.names layer.spec))
    ∷ (playhead_members source.config.rate layer
    ++ (member "looped" (flag layer.looped)
    ∷ member "paused" (flag layer.paused)
    ∷ member "transition" (transition_tokens layer)
    ∷ member "mixer" (mixer_tokens source.history (place_at channel layer.layer))
    ∷ [])))

-- the levels of a channel, left and right, or null if they are not known
abbrev pub levels_tokens : Option Levels → List Token
levels_tokens None = null ∷ []
levels_tokens (Some levels) = array (whole levels.left ++ whole levels.right)

-- the levels of a channel, the first one being channel 1
abbrev pub channel_levels : Option (List Levels) → ℕ → Option Levels
channel_levels None channel = None
channel_levels (Some levels) channel = slice_get levels (channel - 1)

-- a channel: its size, its levels, and its layers that have a foreground, in rising number
unfoldable pub channel_tokens : SourceView → ℕ → ChannelView → List Token
channel_tokens source channel size = object (
    member "channel" (whole channel)
    ∷ member "width" (whole size.width)
    ∷ member "height" (whole size.height)
    ∷ member "levels" (levels_tokens (channel_levels source.levels channel))
    ∷ member "layers" (array (flat_map (layer_tokens source channel) (seen_layers source.history channel)))
    ∷ [])

-- a channel with its number
abbrev pub numbered_tokens : SourceView → ℕ × ChannelView → List Token
numbered_tokens source channel = channel_tokens source channel.0 channel.1

-- the channels, numbered from 1
abbrev pub channels_tokens : SourceView → List Token
channels_tokens source = flat_map (numbered_tokens source) (enumerate_from 1 source.config.channels)

-- the whole document: how far the history is, and the channels
unfoldable pub source_tokens : SourceView → List Token
source_tokens source = object (
    member "ticks" (whole (ticks source.history))
    ∷ member "timecode" (text (timecode_text source.config.rate (ticks source.history)))
    ∷ member "rate" (whole source.config.rate)
    ∷ member "events" (whole (length source.history))
    ∷ member "ended" (flag (is_some (stop_at source.history)))
    ∷ member "channels" (array (channels_tokens source))
    ∷ [])

-- the status after a history
abbrev pub status_tokens : ConfigView → List MediaNameView → Option (List Levels) → List Event → List Token
status_tokens config names levels history =
    source_tokens (record { config = config; names = names; levels = levels; history = history })

-- the levels that a source has
abbrev pub levels_in : StatusSource → Option (List Levels)
levels_in source = elim source.levels [
  | None ↦ None
  | Some levels ↦ Some levels.now
]

-- what a source is of
abbrev pub source_of : StatusSource → SourceView
source_of source = record {
  config = source.config.now;
  names = source.names.now;
  levels = levels_in source;
  history = source.stage.now.journal.events;
}
