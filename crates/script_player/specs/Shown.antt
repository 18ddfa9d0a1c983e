-- What is written for a script, by how its ticks are shown.
use Rattle.std.specs.Prelude.{◌≡◌, ℕ, zero, suc, Bool, true, false, if◌then◌else◌, List, [], ◌∷◌, ◌++◌}
use Rattle.play_types.specs.declared.event.Event.{Event}
use Rattle.play_types.specs.declared.event.Event.TheVariants as event
use Rattle.history_model.specs.scripts.Line.{ScriptLine, Comment, Ticks, Said, Stop, Rejected}
use Rattle.history_model.specs.scripts.History.{Playout, PlayedLine, ends_at, script_events}
use Rattle.history_model.specs.scripts.Output.{output_at, script_output, tick_output, ticks_output}

-- the text of the next `count` ticks, by `tick`, the text of the tick after some events
unfoldable pub ticks_by : (List Event → List ℕ) → List Event → ℕ → List ℕ
ticks_by tick events zero = []
ticks_by tick events (suc count) = tick events ++ ticks_by tick (events ++ event.Tick ∷ []) count

-- the text of a line after those before it: that of ticks by `tick`, and the reply to a line of a connection
abbrev pub line_by : (List Event → List ℕ) → Playout → List PlayedLine → PlayedLine → ScriptLine → List ℕ
line_by tick playout before line Comment = []
line_by tick playout before line (Ticks count) = ticks_by tick (script_events playout before) count
line_by tick playout before line (Said tag text) = output_at playout before line (Said tag text)
line_by tick playout before line Stop = []
line_by tick playout before line Rejected = []

-- what is written for lines that follow others, up to the line at which the run ends
unfoldable pub output_after_by : (List Event → List ℕ) → Playout → List PlayedLine → List PlayedLine → List ℕ
output_after_by tick playout before [] = []
output_after_by tick playout before (line ∷ lines) =
    line_by tick playout before line line.line
    ++ (if ends_at playout before line line.line then [] else output_after_by tick playout (before ++ line ∷ []) lines)

-- the text of a script, by `tick`, the text of the tick after some events
unfoldable pub output_by : (List Event → List ℕ) → Playout → List PlayedLine → List ℕ
output_by tick playout lines = output_after_by tick playout [] lines

-- the empty text for each tick
abbrev pub no_text : List Event → List ℕ
no_text events = []

-- how ticks are shown: by the frames of all channels, by a text of the events before each, or not at all. If they are not shown, a run
-- stops at a reply that reports out of memory
pub data Shown : Type 0 where
  Frames : Shown
  ByText : (Playout → List Event → List ℕ) → Shown
  Replies : Shown

-- whether a run stops at a reply that reports out of memory
abbrev pub memory_needed : Shown → Bool
memory_needed Frames = false
memory_needed (ByText tick) = false
memory_needed Replies = true

abbrev pub NeedsMemory : Shown → Type 0
NeedsMemory shown = memory_needed shown ≡ true

-- what is written for the tick after some events
abbrev pub shown_tick : Shown → Playout → List Event → List ℕ
shown_tick Frames playout events = tick_output playout events
shown_tick (ByText tick) playout events = tick playout events
shown_tick Replies playout events = []

-- what is written for the next ticks
abbrev pub shown_ticks : Shown → Playout → List Event → ℕ → List ℕ
shown_ticks Frames playout events count = ticks_output playout events count
shown_ticks (ByText tick) playout events count = ticks_by (tick playout) events count
shown_ticks Replies playout events count = ticks_by no_text events count

-- what is written for a line after those before it
abbrev pub shown_line : Shown → Playout → List PlayedLine → PlayedLine → ScriptLine → List ℕ
shown_line Frames playout before line said = output_at playout before line said
shown_line (ByText tick) playout before line said = line_by (tick playout) playout before line said
shown_line Replies playout before line said = line_by no_text playout before line said

-- what is written for a script
abbrev pub shown_output : Shown → Playout → List PlayedLine → List ℕ
shown_output Frames playout lines = script_output playout lines
shown_output (ByText tick) playout lines = output_by (tick playout) playout lines
shown_output Replies playout lines = output_by no_text playout lines
