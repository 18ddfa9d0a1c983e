-- What is recorded while a history is played again, tick by tick, and how a film is written.
use Rattle.std.specs.Prelude.{◌≡◌, ℕ, ◌+◌, ◌≤◌, ◌&&◌, nat_le, nat_lt, Bool, if◌then◌else◌, List, [], ◌∷◌, ◌++◌, All, length, map, take}
use Rattle.play_types.specs.Config.{ConfigView}
use Rattle.play_types.specs.History.{ticks}
use Rattle.play_types.specs.declared.event.Event.{Event}
use Rattle.play_types.specs.declared.event.Event.TheVariants.{Do, Batch, Tick, Stop}
use Rattle.play_outside.specs.Sink.{Fails}
use Rattle.play_outside.specs.SinkState.{SinkState, after_taking}
use Rattle.clip_format.specs.Table.{Entry}
use Rattle.play_scene.specs.Picture.{clips_of}
use Rattle.history_model.specs.commands.Channels.{IsServed}
use Rattle.history_model.specs.pictures.Media.{Setup}
use Rattle.history_model.specs.recordings.Film.{Span}
use Rattle.history_model.specs.scripts.History.{channel_size}
use Rattle.history_model.specs.scripts.Output.{raw_frame}
use Rattle.play_recorder.specs.declared.recording.Recorded.{Recorded}
use Rattle.play_recorder.specs.declared.recording.Recorded.TheVariants as recorded

-- whether the tick after the first `count` ticks is recorded
abbrev pub is_recorded : Span → ℕ → Bool
is_recorded span count = nat_le span.first count && nat_lt count (span.first + span.frames)

-- what is recorded at an event after a history: the frame of the channel, at a recorded tick
abbrev pub recorded_at : Setup → Span → List Event → Event → List ℕ
recorded_at setup span past (Do tag cmd) = []
recorded_at setup span past (Batch tag cmds) = []
recorded_at setup span past Tick = if is_recorded span (ticks past) then raw_frame setup past span.channel else []
recorded_at setup span past (Stop tag) = []

-- what is recorded at the events that follow a history
abbrev pub recorded_after : Setup → Span → List Event → List Event → List ℕ
recorded_after setup span past [] = []
recorded_after setup span past (event ∷ later) =
    recorded_at setup span past event ++ recorded_after setup span (past ++ event ∷ []) later

-- the channels of a configuration, and the clips of a media table
abbrev pub setup_with : ConfigView → List Entry → Setup
setup_with config entries = record { channels = map channel_size config.channels; clips = clips_of entries }

-- the commands of an event name only layers, channels and routes of the first `channels` channels
abbrev pub IsServedEvent : ℕ → Event → Type 0
IsServedEvent channels (Do tag cmd) = IsServed channels cmd
IsServedEvent channels (Batch tag cmds) = All (IsServed channels) cmds
IsServedEvent channels Tick = Unit {0}
IsServedEvent channels (Stop tag) = Unit {0}

-- and so do the commands of each event
abbrev pub AreServedEvents : ℕ → List Event → Type 0
AreServedEvents channels [] = Unit {0}
AreServedEvents channels (event ∷ events) = IsServedEvent channels event × AreServedEvents channels events

-- a sink took a prefix of these bytes
pub record TakesPrefix (bytes : List ℕ) (before after : SinkState) : Type 0 where
  pub count : ℕ
  pub within : count ≤ length bytes
  pub taken : after ≡ after_taking before (take count bytes)

-- what a sink took of the bytes of a film, by how the writing ended
abbrev pub Records : Recorded → List ℕ → SinkState → SinkState → Type 0
Records recorded.All bytes before after = after ≡ after_taking before bytes
Records recorded.Failed bytes before after = Fails bytes before after
Records recorded.OutOfMemory bytes before after = TakesPrefix bytes before after
