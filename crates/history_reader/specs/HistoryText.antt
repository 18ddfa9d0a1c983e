-- The text of a history: the lines that it may have, and the events that they make.
use Rattle.std.specs.Prelude.{ℕ, ◌+◌, ◌&&◌, ◌||◌, Bool, true, false, if◌then◌else◌, Option, Some, None, is_some, List, [], ◌∷◌, ◌++◌, length, map}
use Rattle.play_types.specs.History.{stop_at}
use Rattle.play_types.specs.declared.event.Event.{Event}
use Rattle.play_types.specs.declared.event.Event.TheVariants.{Do, Batch, Tick, Stop}
use Rattle.play_types.specs.declared.reply.Name.{Name}
use Rattle.play_types.specs.declared.reply.Name.TheVariants as name
use Rattle.play_types.specs.declared.reply.Reply.{Reply}
use Rattle.play_types.specs.declared.reply.Reply.TheVariants as reply
use Rattle.history_model.specs.scripts.Line.{meaning}
use Rattle.history_model.specs.scripts.Input.{ended_lines}
use Rattle.history_model.specs.scripts.History.{Playout, PlayedLine, Past, events_at, goes_on, script_events}
use Rattle.history_model.specs.scripts.Memory.{reply_at, with_memory}

-- whether a line of this name opens a batch, or may be a command of one
abbrev pub is_of_batch : Name → Bool
is_of_batch name.LoadBg = true
is_of_batch name.Load = true
is_of_batch name.Play = true
is_of_batch name.Pause = true
is_of_batch name.Resume = true
is_of_batch name.Stop = true
is_of_batch name.Clear = true
is_of_batch name.Swap = true
is_of_batch name.Mixer = true
is_of_batch name.Add = true
is_of_batch name.Remove = true
is_of_batch name.Begin = true
is_of_batch name.Commit = false
is_of_batch name.Discard = false
is_of_batch name.Info = false
is_of_batch name.Cls = false
is_of_batch name.Version = false
is_of_batch name.Bye = false
is_of_batch name.Kill = false
is_of_batch name.Req = false

-- whether a line that made no event is kept for a batch, by its reply: a 202 to BEGIN or to a command
abbrev pub is_kept : Option Reply → Bool
is_kept None = false
is_kept (Some (reply.Done command)) = is_of_batch command
is_kept (Some (reply.Value micros)) = false
is_kept (Some (reply.Info statuses)) = false
is_kept (Some reply.Cls) = false
is_kept (Some reply.Version) = false
is_kept (Some (reply.Unknown line)) = false
is_kept (Some (reply.Refused code command)) = false
is_kept (Some reply.NoMemory) = false

-- whether there is an event
abbrev pub is_some_event : List Event → Bool
is_some_event [] = false
is_some_event (event ∷ events) = true

-- what was played before a line
abbrev pub past_of : Playout → List PlayedLine → Past
past_of playout before = record { lines = before; events = script_events playout before }

-- whether a line is one of a history, after the lines before it: no stop is before it, and it makes an event or is kept for a batch
abbrev pub is_history_line : Playout → List PlayedLine → PlayedLine → Bool
is_history_line playout before line =
    goes_on playout before
    && (is_some_event (events_at playout (past_of playout before) line line.line) || is_kept (reply_at playout before line line.line))

-- the number, from 1, of the first line that is none of a history, among lines that follow others; none if there is no such line
unfoldable pub fault_after : Playout → List PlayedLine → List PlayedLine → Option ℕ
fault_after playout before [] = None
fault_after playout before (line ∷ lines) =
    if is_history_line playout before line then fault_after playout (before ++ line ∷ []) lines else Some (length before + 1)

-- lines as they are played with memory for what they ask
abbrev pub with_memory_for : List (List ℕ) → List PlayedLine
with_memory_for lines = map with_memory (map meaning lines)

-- the lines of a text: those that a line feed ends
abbrev pub text_lines : List ℕ → List PlayedLine
text_lines text = with_memory_for (ended_lines text)

-- the number, from 1, of the first line of a text that is none of a history; none if there is no such line
abbrev pub faulty_line : Playout → List ℕ → Option ℕ
faulty_line playout text = fault_after playout [] (text_lines text)

-- the events before the first stop, and all of them if there is none
abbrev pub events_before_stop : List Event → List Event
events_before_stop [] = []
events_before_stop (Do tag cmd ∷ events) = Do tag cmd ∷ events_before_stop events
events_before_stop (Batch tag cmds ∷ events) = Batch tag cmds ∷ events_before_stop events
events_before_stop (Tick ∷ events) = Tick ∷ events_before_stop events
events_before_stop (Stop tag ∷ events) = []

-- the events of a text, without the stop at its end
abbrev pub text_events : Playout → List ℕ → List Event
text_events playout text = events_before_stop (script_events playout (text_lines text))

-- whether the events of a text end with a stop
abbrev pub has_stop : Playout → List ℕ → Bool
has_stop playout text = is_some (stop_at (script_events playout (text_lines text)))
