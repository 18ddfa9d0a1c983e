-- The film of a recording: the frames of a channel at the ticks between two marks of a history, as a clip.
use Rattle.std.specs.Prelude.{ℕ, zero, suc, ◌-◌, ◌==◌, min, Bool, false, if◌then◌else◌, Option, Some, None, option_map, option_and_then, unwrap_or, List, [], ◌∷◌, ◌++◌, map, flat_map}
use Rattle.std.specs.List.{range_with_len}
use Rattle.std.specs.Option.{option_map_or}
use Rattle.std.specs.Str.{bytes_eq}
use Rattle.play_types.specs.ClipFile.{ClipView}
use Rattle.play_types.specs.History.{ticks}
use Rattle.play_types.specs.Commands.{mark_of}
use Rattle.play_types.specs.Shape.{recording_channel}
use Rattle.play_types.specs.declared.clip.TheConstants.{MAX_FRAMES, MULTIPLIED}
use Rattle.play_types.specs.declared.command.Cmd.{Cmd}
use Rattle.play_types.specs.declared.event.Event.{Event}
use Rattle.play_types.specs.declared.event.Event.TheVariants.{Do, Batch, Tick, Stop}
use Rattle.play_types.specs.declared.shape.Recording.{Recording}
use Rattle.play_types.specs.declared.shape.Recording.TheVariants as recording
use Rattle.history_model.specs.pictures.Media.{Setup, size}
use Rattle.history_model.specs.scripts.Output.{raw_frame}
use Rattle.history_model.specs.stage.Act.{Act, act_after}
use Rattle.history_model.specs.stage.Acts.{is_refused}

-- the commands of an event, in order
abbrev pub commands_of : Event → List Cmd
commands_of (Do tag cmd) = cmd ∷ []
commands_of (Batch tag cmds) = cmds
commands_of Tick = []
commands_of (Stop tag) = []

-- the commands of an event after a history, each with the number of ticks before it: none if the event is refused
abbrev pub accepted_of : List Event → Event → List Act
accepted_of history event =
    if is_refused history event then [] else map (act_after (ticks history)) (commands_of event)

-- the accepted commands of the events that follow a history
abbrev pub accepted_after : List Event → List Event → List Act
accepted_after history [] = []
accepted_after history (event ∷ later) = accepted_of history event ++ accepted_after (history ++ event ∷ []) later

-- the accepted commands of a history, in order, each with the number of ticks before it
unfoldable pub accepted_commands : List Event → List Act
accepted_commands history = accepted_after [] history

-- the channel on which a mark begins a recording of a name
abbrev pub begun_on : List ℕ → Recording → Option ℕ
begun_on name (recording.Begin channel begun) = if bytes_eq begun name then Some channel else None
begun_on name (recording.End channel) = None

-- the channel on which a command begins a recording of a name
abbrev pub begun_by : List ℕ → Cmd → Option ℕ
begun_by name cmd = option_and_then (begun_on name) (mark_of cmd)

-- whether a command is a mark of a channel: whatever is recorded of the channel ends there
abbrev pub is_mark_of : ℕ → Cmd → Bool
is_mark_of channel cmd = option_map_or (λ mark. recording_channel mark == channel) (mark_of cmd) false

-- a recording: its channel, the number of ticks before it, and the number of ticks before its end, none while it runs
pub record Begun : Type 0 where
  pub channel : ℕ
  pub first : ℕ
  pub end : Option ℕ

-- the number of ticks before the first mark of a channel among commands
abbrev pub first_mark : ℕ → List Act → Option ℕ
first_mark channel [] = None
first_mark channel (act ∷ later) = if is_mark_of channel act.cmd then Some act.ticks else first_mark channel later

-- the first recording of a name among commands in their order
abbrev pub begun_in : List ℕ → List Act → Option Begun
begun_in name [] = None
begun_in name (act ∷ later) = elim (begun_by name act.cmd) [
  | None ↦ begun_in name later
  | Some channel ↦ Some (record { channel = channel; first = act.ticks; end = first_mark channel later })
]

-- recorded ticks of a channel: the number of ticks before the first of them, and how many there are
pub record Span : Type 0 where
  pub channel : ℕ
  pub first : ℕ
  pub frames : ℕ

-- the ticks from `first` on and before `end`, at most as many as a clip may have frames: none if there is none
abbrev pub span_to : ℕ → ℕ → ℕ → Option Span
span_to channel first end =
    if end - first == 0 then None else Some (record { channel = channel; first = first; frames = min MAX_FRAMES (end - first) })

-- the ticks of a recording in a history of `total` ticks
abbrev pub span_of : ℕ → Begun → Option Span
span_of total begun = span_to begun.channel begun.first (unwrap_or begun.end total)

-- the ticks that are recorded under a name: those after the first accepted ADD of the name, up to the next accepted mark of its
-- channel or the end of the history
unfoldable pub film_span : List Event → List ℕ → Option Span
film_span history name = option_and_then (span_of (ticks history)) (begun_in name (accepted_commands history))

-- the events of a history before the tick that follows its first `count` ticks
abbrev pub before_tick : List Event → ℕ → List Event
before_tick [] count = []
before_tick (Do tag cmd ∷ later) count = Do tag cmd ∷ before_tick later count
before_tick (Batch tag cmds ∷ later) count = Batch tag cmds ∷ before_tick later count
before_tick (Tick ∷ later) zero = []
before_tick (Tick ∷ later) (suc count) = Tick ∷ before_tick later count
before_tick (Stop tag ∷ later) count = Stop tag ∷ before_tick later count

-- the clip of recorded ticks: its size is that of the channel, and its frames are what the channel shows at these ticks
unfoldable pub filmed : Setup → List Event → Span → ClipView
filmed setup history span = record {
  version = MULTIPLIED;
  geometry = size setup span.channel;
  frames = span.frames;
  bytes = flat_map (λ tick. raw_frame setup (before_tick history tick) span.channel) (range_with_len span.first span.frames);
}

-- the film of a history under a name: none if no recording of the name begins, or if it has no tick
unfoldable pub film : Setup → List Event → List ℕ → Option ClipView
film setup history name = option_map (filmed setup history) (film_span history name)
