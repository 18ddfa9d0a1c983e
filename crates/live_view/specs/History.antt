-- The history of the bytes of a log.
use Rattle.std.specs.Prelude.{◌≡◌, ℕ, List, map}
use Rattle.play_types.specs.declared.event.Event.{Event}
use Rattle.history_model.specs.scripts.History.{Playout, PlayedLine, script_events}
use Rattle.history_model.specs.scripts.Input.{ended_lines}
use Rattle.history_model.specs.scripts.Memory.{with_memory}
use Rattle.script_player.specs.Script.{meanings}

-- the lines of a log that have ended, as they are played if there is memory for what each asks
abbrev pub lines_of_log : List ℕ → List PlayedLine
lines_of_log bytes = map with_memory (meanings (ended_lines bytes))

-- the history of a log: the events of its ended lines, up to the first one that stops the server
abbrev pub history_of : Playout → List ℕ → List Event
history_of playout bytes = script_events playout (lines_of_log bytes)

-- these events are the history of a log
abbrev pub IsHistoryOf : Playout → List ℕ → List Event → Type 0
IsHistoryOf playout bytes events = events ≡ history_of playout bytes
