-- What is written for a tick that is shown by status in place of frames.
use Rattle.std.specs.Prelude.{ℕ, List, [], ◌∷◌, ◌++◌, length, flat_map}
use Rattle.std.specs.List.{range_with_len}
use Rattle.play_types.specs.declared.event.Event.{Event}
use Rattle.play_types.specs.declared.event.Event.TheVariants as event
use Rattle.history_model.specs.scripts.History.{Playout, setup_of}
use Rattle.osc_status.specs.Status.{layer_lines, layer_statuses, status_line, status_text, ticks_message}
use Rattle.osc_status.specs.declared.layer.LayerStatus.{LayerStatus}
use Rattle.stage_core.specs.declared.seen.LayerView.{LayerView}
use Rattle.script_player.specs.Shown.{ByText, Shown}
use Rattle.script_player.specs.declared.display.MadeTick.{MadeTick}

-- the lines of the status after the tick that follows these events
abbrev pub tick_status : Playout → List Event → List ℕ
tick_status playout events = status_text (setup_of playout) playout.names (events ++ event.Tick ∷ [])

-- ticks are shown by the status of all channels
abbrev pub Status : Shown
Status = ByText tick_status

-- the history up to a tick
abbrev pub events_of_tick : MadeTick → List Event
events_of_tick tick = tick.stage.now.journal.events

-- the status of a layer of a channel, from its view
abbrev pub status_of_view : ℕ → LayerView → LayerStatus
status_of_view channel layer = record {
  channel = channel;
  layer = layer.layer;
  spec = layer.spec;
  frame = layer.frame;
  length = layer.length;
  paused = layer.paused;
}

-- what is written for the status of a channel after a tick
abbrev pub channel_status : MadeTick → ℕ → List ℕ
channel_status tick channel =
    status_line tick.number (ticks_message channel tick.number)
    ++ flat_map (layer_lines tick.setup.now.names tick.number) (layer_statuses (events_of_tick tick) channel)

-- what is written for the status of all channels
abbrev pub statuses_text : MadeTick → List ℕ
statuses_text tick = flat_map (channel_status tick) (range_with_len 1 (length tick.setup.now.config.channels))
