-- The frames of a history, as an output takes them.
use Rattle.std.specs.Prelude.{◌≡◌, ℕ, Bool, true, false, List, [], ◌++◌, map, take, flat_map}
use Rattle.play_types.specs.Config.{ChannelView}
use Rattle.play_types.specs.History.{ticks}
use Rattle.play_types.specs.declared.event.Event.{Event}
use Rattle.play_types.specs.declared.event.Event.TheVariants.{Do, Batch, Tick, Stop}
use Rattle.clip_format.specs.Table.{Entry}
use Rattle.history_model.specs.pictures.Media.{Setup}
unfoldable pub use Rattle.history_model.specs.scripts.Output.{raw_frame}
use Rattle.play_scene.specs.Frames.{FrameView, zero_frame}
use Rattle.play_scene.specs.Picture.{clips_of}
use Rattle.band_render.specs.Histories.{Represents}
use Rattle.band_render.specs.Rendered.{sizes}
use Rattle.stage_lock.specs.Own.{positions}

-- whether an event is a tick
abbrev pub is_tick : Event → Bool
is_tick (Do tag cmd) = false
is_tick (Batch tag cmds) = false
is_tick Tick = true
is_tick (Stop tag) = false

-- the positions of the ticks of a history, in order
abbrev pub tick_positions : List Event → List ℕ
tick_positions history = positions is_tick 0 history

-- the frames of a channel at the ticks of a history that comes after given events, one after another, each by all events before its
-- tick
unfoldable pub frames_since : Setup → List Event → List Event → ℕ → List ℕ
frames_since setup given history channel = flat_map (λ at. raw_frame setup (given ++ take at history) channel) (tick_positions history)

-- the frames of a channel at all ticks of a history, one after another, each by the events before its tick
abbrev pub frames_text : Setup → List Event → ℕ → List ℕ
frames_text setup history channel = frames_since setup [] history channel

-- the sizes of these frames, and the clips of a media table
abbrev pub setup_for : List FrameView → List Entry → Setup
setup_for frames entries = record { channels = sizes frames; clips = clips_of entries }

-- the frames are transparent and silent, like those of the channels of a configuration before its first tick
pub record AreBlank (frames : List FrameView) : Type 0 where
  pub channels : List ChannelView
  pub blank : frames ≡ map zero_frame channels

-- the frames are those of each channel at the last tick of a history, and blank if it has no tick
abbrev pub AreLast : List Event → List Entry → List FrameView → Type 0
AreLast history entries frames = Represents (setup_for frames entries) history entries frames

-- two histories have equally many ticks, and equal frames of each channel, whatever events are given before them
pub record HasSameTicks (seen history : List Event) : Type 0 where
  pub ticks : ticks history ≡ ticks seen
  pub frames : (setup : Setup) (given : List Event) (channel : ℕ) → frames_since setup given history channel ≡ frames_since setup given seen channel
