-- Timelines: lists of commands and ticks, the last one first. The accepted commands and the ticks of a history are one. So is
-- such a list with commands left out or moved, even if no history has it.
use Rattle.std.specs.Prelude.{ℕ, ◌+◌, ℤ, List, [], ◌∷◌, ◌++◌, map, reverse, is_none, if◌then◌else◌}
use Rattle.play_types.specs.Place.{PlaceView}
use Rattle.play_types.specs.History.{ticks}
use Rattle.play_types.specs.declared.setting.Prop.{Prop}
use Rattle.play_types.specs.declared.command.Cmd.{Cmd}
use Rattle.play_types.specs.declared.event.Event.{Event}
use Rattle.play_types.specs.declared.event.Event.TheVariants.{Do, Batch, Tick, Stop}
use Rattle.history_model.specs.stage.Act.{Act, acts_of}
use Rattle.history_model.specs.stage.Acts.{acts_back, with_event}
use Rattle.history_model.specs.stage.Value.{value_at}

-- a command that is done, or a tick
pub data Entry : Type 0 where
  Did : Cmd → Entry
  Ticked : Entry

-- the entries of an accepted event, the last one first: a batch has its commands, one after another, and no tick between
abbrev pub entries_of : Event → List Entry
entries_of (Do tag cmd) = Did cmd ∷ []
entries_of (Batch tag cmds) = reverse (map Did cmds)
entries_of Tick = Ticked ∷ []
entries_of (Stop tag) = []

-- the timeline of a history that is read backward, its last event first. A refused event has no entries
abbrev pub timeline_back : List Event → List Entry
timeline_back [] = []
timeline_back (event ∷ before) =
    let earlier = timeline_back before in
    if is_none (with_event (acts_back before) (ticks before) event) then earlier else entries_of event ++ earlier

-- the timeline of a history
unfoldable pub timeline : List Event → List Entry
timeline history = timeline_back (reverse history)

-- the number of ticks of a timeline
abbrev pub timeline_ticks : List Entry → ℕ
timeline_ticks [] = 0
timeline_ticks (Did cmd ∷ before) = timeline_ticks before
timeline_ticks (Ticked ∷ before) = 1 + timeline_ticks before

-- the acts of a timeline, the last one first: those of each command, after the ticks before it
abbrev pub timeline_acts : List Entry → List Act
timeline_acts [] = []
timeline_acts (Did cmd ∷ before) = acts_of (timeline_ticks before) cmd ++ timeline_acts before
timeline_acts (Ticked ∷ before) = timeline_acts before

-- the value of a property of a place after a timeline, when `ticks` ticks have passed, in millionths
unfoldable pub timeline_value : List Entry → PlaceView → Prop → ℕ → List ℤ
timeline_value entries place prop ticks = value_at (timeline_acts entries) place prop ticks
