-- The text of a history. It is a script.
use Rattle.std.specs.Prelude.{◌≡◌, ℕ, zero, suc, ◌+◌, ◌/◌, ◌%◌, ◌≤◌, if◌then◌else◌, List, [], ◌∷◌, ◌++◌, flat_map, replicate, codes, decimal, encode_utf8_all}
use Rattle.play_types.specs.Media.{MediaNameView}
use Rattle.play_types.specs.declared.command.Cmd.{Cmd}
use Rattle.play_types.specs.declared.event.Tag.{Tag}
use Rattle.play_types.specs.declared.event.Event.{Event}
use Rattle.play_types.specs.declared.event.Event.TheVariants.{Do, Batch, Tick, Stop}
use Rattle.history_model.specs.declared.limits.TheConstants.{MAX_TICKS_PER_LINE}
use Rattle.history_model.specs.scripts.History.{server, same_tag}
use Rattle.history_model.specs.scripts.Output.{tag_text}
use Rattle.history_model.specs.text.Commands.{command_text}

-- a line of a connection
unfoldable pub connection_line : Tag → List ℕ → List ℕ
connection_line tag text = tag_text tag ++ (text ++ 10 ∷ [])

-- the line of a command
abbrev pub command_line : List MediaNameView → Tag → Cmd → List ℕ
command_line media tag cmd = connection_line tag (encode_utf8_all (command_text media cmd))

-- the lines of a batch: BEGIN, its commands, and COMMIT
abbrev pub batch_lines : List MediaNameView → Tag → List Cmd → List ℕ
batch_lines media tag cmds =
    connection_line tag (codes "BEGIN") ++ (flat_map (command_line media tag) cmds ++ connection_line tag (codes "COMMIT"))

-- the line of a number of ticks
abbrev pub tick_line : ℕ → List ℕ
tick_line count = codes "T " ++ (decimal count ++ 10 ∷ [])

-- the lines of ticks in a row: each line has as many as a line may have, except the last, which has the rest
unfoldable pub tick_lines : ℕ → List ℕ
tick_lines zero = []
tick_lines (suc before) =
    flat_map tick_line (replicate (before / MAX_TICKS_PER_LINE) MAX_TICKS_PER_LINE)
    ++ tick_line (before % MAX_TICKS_PER_LINE + 1)

-- the line of a stop: of the server itself, or of a connection
unfoldable pub stop_line : Tag → List ℕ
stop_line tag = if same_tag tag server then codes "X\n" else connection_line tag (codes "KILL")

-- the text of events that follow a number of ticks
abbrev pub text_after : List MediaNameView → ℕ → List Event → List ℕ
text_after media count [] = tick_lines count
text_after media count (Do tag cmd ∷ events) = tick_lines count ++ (command_line media tag cmd ++ text_after media 0 events)
text_after media count (Batch tag cmds ∷ events) = tick_lines count ++ (batch_lines media tag cmds ++ text_after media 0 events)
text_after media count (Tick ∷ events) = text_after media (count + 1) events
text_after media count (Stop tag ∷ events) = tick_lines count ++ (stop_line tag ++ text_after media 0 events)

-- the text of a history: ticks in a row are written in as few lines as possible
unfoldable pub history_text : List MediaNameView → List Event → List ℕ
history_text media events = text_after media 0 events

-- the events of pieces of a history, one after another
abbrev pub joined_events : List (List Event) → List Event
joined_events pieces = flat_map (λ (piece : List Event). piece) pieces

-- the text of a log: that of each piece of a history. Ticks in a row that are divided between two pieces are written in two lines
abbrev pub log_text : List MediaNameView → List (List Event) → List ℕ
log_text media pieces = flat_map (history_text media) pieces

-- a run of an event: one tick or more, and another event once
abbrev pub IsRun : Event → ℕ → Type 0
IsRun (Do tag cmd) times = times ≡ 1
IsRun (Batch tag cmds) times = times ≡ 1
IsRun Tick times = 1 ≤ times
IsRun (Stop tag) times = times ≡ 1

-- these events do not begin with a tick
abbrev pub BeginWithoutTick : List Event → Type 0
BeginWithoutTick [] = Unit {0}
BeginWithoutTick (Do tag cmd ∷ events) = Unit {0}
BeginWithoutTick (Batch tag cmds ∷ events) = Unit {0}
BeginWithoutTick (Tick ∷ events) = ⊥
BeginWithoutTick (Stop tag ∷ events) = Unit {0}

-- these events can follow a whole run: no tick follows ticks
abbrev pub FollowRun : Event → List Event → Type 0
FollowRun (Do tag cmd) events = Unit {0}
FollowRun (Batch tag cmds) events = Unit {0}
FollowRun Tick events = BeginWithoutTick events
FollowRun (Stop tag) events = Unit {0}
