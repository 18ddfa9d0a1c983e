-- The acts of a history, and which of its events are refused.
use Rattle.std.specs.Prelude.{ℕ, Bool, ◌||◌, List, [], ◌∷◌, ◌++◌, length, reverse, nat_lt, Option, Some, None, is_none, unwrap_or, option_and_then, if◌then◌else◌}
use Rattle.std.specs.List.{list_any}
use Rattle.play_types.specs.History.{ticks}
use Rattle.play_types.specs.declared.place.TheConstants.{MAX_LIVE_LAYERS}
use Rattle.play_types.specs.declared.setting.TheConstants.{MAX_WAITING_SETTINGS}
use Rattle.play_types.specs.Shape.{shape_of}
use Rattle.play_types.specs.declared.command.Cmd.{Cmd}
use Rattle.play_types.specs.declared.shape.CommandShape.TheVariants as shape
use Rattle.play_types.specs.declared.event.Event.{Event}
use Rattle.play_types.specs.declared.event.Event.TheVariants.{Do, Batch, Tick, Stop}
use Rattle.history_model.specs.stage.Act.{Act, acts_of}
use Rattle.history_model.specs.stage.Resolved.{waiting_settings}
use Rattle.history_model.specs.stage.Live.{with_number, live_layers}

-- the channels, with those added to which a command can bring content or a waiting setting
abbrev pub with_channels_of : Cmd → List ℕ → List ℕ
with_channels_of cmd channels = elim (shape_of cmd) [
  | shape.Take at take ↦ with_number at.channel channels
  | shape.Change at ↦ channels
  | shape.ClearChannel channel ↦ channels
  | shape.SwapLayers a b transforms ↦ with_number a.channel (with_number b.channel channels)
  | shape.SwapChannels a b transforms ↦ with_number a (with_number b channels)
  | shape.Set setting ↦ with_number setting.place.channel channels
  | shape.CommitMixer channel ↦ channels
  | shape.Reset target ↦ channels
  | shape.Record mark ↦ channels
  | shape.Ask query ↦ channels
]

-- the channels that can hold content or a waiting setting after the acts, in rising number
abbrev pub channels : List Act → List ℕ
channels [] = []
channels (act ∷ before) = with_channels_of act.cmd (channels before)

-- whether a channel has more live layers or more waiting settings after the acts and `ticks` ticks than it may have
abbrev pub is_over : List Act → ℕ → ℕ → Bool
is_over acts ticks channel =
    nat_lt MAX_LIVE_LAYERS (length (live_layers acts ticks channel))
    || nat_lt MAX_WAITING_SETTINGS (length (waiting_settings acts channel))

-- the acts with those of a command after `ticks` ticks, none if the command is refused because a channel would be over a limit
abbrev pub with_command : List Act → ℕ → Cmd → Option (List Act)
with_command acts ticks cmd =
    let more = acts_of ticks cmd ++ acts in
    if list_any (is_over more ticks) (channels more) then None else Some more

-- the acts with those of all commands, none if one of them is refused after the ones before it
abbrev pub with_commands : List Act → ℕ → List Cmd → Option (List Act)
with_commands acts ticks [] = Some acts
with_commands acts ticks (cmd ∷ cmds) =
    option_and_then (λ more. with_commands more ticks cmds) (with_command acts ticks cmd)

-- the acts with those of an event after `ticks` ticks, none if it is refused
abbrev pub with_event : List Act → ℕ → Event → Option (List Act)
with_event acts ticks (Do tag cmd) = with_command acts ticks cmd
with_event acts ticks (Batch tag cmds) = with_commands acts ticks cmds
with_event acts ticks Tick = Some acts
with_event acts ticks (Stop tag) = Some acts

-- the acts of a history that is read backward, its last event first. A refused event gives none
abbrev pub acts_back : List Event → List Act
acts_back [] = []
acts_back (event ∷ before) =
    let earlier = acts_back before in unwrap_or (with_event earlier (ticks before) event) earlier

-- the acts of a history, the last one first
unfoldable pub acts : List Event → List Act
acts history = acts_back (reverse history)

-- whether an event after a history is refused
unfoldable pub is_refused : List Event → Event → Bool
is_refused history event = is_none (with_event (acts history) (ticks history) event)
