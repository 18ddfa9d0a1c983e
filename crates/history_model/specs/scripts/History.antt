-- The history that the lines of a script make.
use Rattle.std.specs.Prelude.{ℕ, ◌+◌, ◌==◌, ◌&&◌, nat_lt, Bool, true, false, if◌then◌else◌, Option, Some, None, List, [], ◌∷◌, ◌++◌, length, map, filter_map, flat_map, replicate, slice_get}
use Rattle.std.specs.List.{enumerate_from}
use Rattle.play_types.specs.Config.{ConfigView, ChannelView}
use Rattle.play_types.specs.Media.{MediaNameView}
use Rattle.play_types.specs.ClipFile.{ClipView}
use Rattle.play_types.specs.History.{held}
use Rattle.play_types.specs.declared.geometry.Geometry.{Geometry}
use Rattle.play_types.specs.declared.event.Tag.{Tag}
use Rattle.play_types.specs.declared.event.Event.{Event}
use Rattle.play_types.specs.declared.event.Event.TheVariants as event
use Rattle.history_model.specs.pictures.Media.{Setup}
use Rattle.history_model.specs.sessions.Session.{Step, Local, Ask, AskBatch, KillServer, EndConnection, Skip, steps}
use Rattle.history_model.specs.scripts.Line.{ScriptLine, Comment, Ticks, Said, Stop, Rejected}

-- what a script is played on: the configuration, the names of the media table and its clips, and whether frames are written as
-- digests
pub record Playout : Type 0 where
  pub config : ConfigView
  pub names : List MediaNameView
  pub clips : List (Option ClipView)
  pub digests : Bool

abbrev pub channel_size : ChannelView → Geometry
channel_size channel = record { width = channel.width; height = channel.height; pairs = channel.pairs }

-- the channels and the clips
abbrev pub setup_of : Playout → Setup
setup_of playout = record { channels = map channel_size playout.config.channels; clips = playout.clips }

-- a line that was played, whether the connection's session gave it up because memory ran out, and whether the stage had no
-- memory for what it asks
pub record PlayedLine : Type 0 where
  pub line : ScriptLine
  pub given_up : Bool
  pub no_memory : Bool

-- the tag of the server itself
abbrev pub server : Tag
server = record { worker = 0; session = 0 }

abbrev pub same_tag : Tag → Tag → Bool
same_tag one other = (one.worker == other.worker) && (one.session == other.session)

-- the text of a line of this connection
abbrev pub text_by : Tag → ScriptLine → Option (List ℕ)
text_by tag Comment = None
text_by tag (Ticks count) = None
text_by tag (Said other text) = if same_tag tag other then Some text else None
text_by tag Stop = None
text_by tag Rejected = None

-- whether a line was given up, none if it has no text
abbrev pub mark_of : Option (List ℕ) → Bool → Option Bool
mark_of None given_up = None
mark_of (Some text) given_up = Some given_up

-- whether a line of this connection was given up, none for another line
abbrev pub given_up_by : Tag → PlayedLine → Option Bool
given_up_by tag played = mark_of (text_by tag played.line) played.given_up

-- the texts of a connection
unfoldable pub texts_of : Tag → List PlayedLine → List (List ℕ)
texts_of tag played = filter_map (λ (one : PlayedLine). text_by tag one.line) played

-- the stream of a connection: its texts, each with CR LF after it
unfoldable pub stream_of : Tag → List PlayedLine → List ℕ
stream_of tag played = flat_map (λ text. text ++ 13 ∷ 10 ∷ []) (texts_of tag played)

abbrev pub number_given_up : ℕ × Bool → Option ℕ
number_given_up line = if line.1 then Some line.0 else None

-- the numbers of a connection's lines that were given up, from 0
unfoldable pub given_up_of : Tag → List PlayedLine → List ℕ
given_up_of tag played = filter_map number_given_up (enumerate_from 0 (filter_map (given_up_by tag) played))

-- the step of a connection's line after the lines before it, none if the connection has ended before
unfoldable pub said_step : Playout → List PlayedLine → PlayedLine → Tag → Option Step
said_step playout before line tag =
    let all = before ++ line ∷ [] in
    slice_get (steps playout.config playout.names (given_up_of tag all) (stream_of tag all)) (length (texts_of tag before))

-- a request to the stage: the events before it, the connection that makes it, and whether the stage has no memory for it
pub record Turn : Type 0 where
  pub playout : Playout
  pub events : List Event
  pub tag : Tag
  pub no_memory : Bool

-- whether the stage takes a command or a batch
pub data Verdict : Type 0 where
  -- the journal would hold more commands than it may
  JournalFull : Verdict
  -- the stage has no memory for it
  OutOfMemory : Verdict
  -- it becomes an event
  Taken : Verdict

-- whether the journal after these events would be above its limit with `commands` commands more
abbrev pub is_full : Playout → List Event → ℕ → Bool
is_full playout events commands = nat_lt playout.config.journal_limit (held events + commands)

-- whether the stage takes `commands` commands: the limit of the journal is checked before memory
abbrev pub verdict : Turn → ℕ → Verdict
verdict turn commands =
    if is_full turn.playout turn.events commands then JournalFull
    else if turn.no_memory then OutOfMemory
    else Taken

-- the events of a command or of a batch, by whether it is taken
abbrev pub verdict_events : Event → Verdict → List Event
verdict_events event JournalFull = []
verdict_events event OutOfMemory = []
verdict_events event Taken = event ∷ []

-- the events of a step: a batch is one event
abbrev pub step_events : Turn → Option Step → List Event
step_events turn None = []
step_events turn (Some (Local answer)) = []
step_events turn (Some (Ask command)) = verdict_events (event.Do turn.tag command) (verdict turn 1)
step_events turn (Some (AskBatch commands)) = verdict_events (event.Batch turn.tag commands) (verdict turn (length commands))
step_events turn (Some KillServer) = event.Stop turn.tag ∷ []
step_events turn (Some EndConnection) = []
step_events turn (Some Skip) = []

-- whether a step stops the server
abbrev pub is_kill : Option Step → Bool
is_kill None = false
is_kill (Some (Local answer)) = false
is_kill (Some (Ask command)) = false
is_kill (Some (AskBatch commands)) = false
is_kill (Some KillServer) = true
is_kill (Some EndConnection) = false
is_kill (Some Skip) = false

-- whether the run ends at a line after the lines before it
abbrev pub ends_at : Playout → List PlayedLine → PlayedLine → ScriptLine → Bool
ends_at playout before line Comment = false
ends_at playout before line (Ticks count) = false
ends_at playout before line (Said tag text) = is_kill (said_step playout before line tag)
ends_at playout before line Stop = true
ends_at playout before line Rejected = true

-- what was played before a line: the lines, and the events that they made
pub record Past : Type 0 where
  pub lines : List PlayedLine
  pub events : List Event

-- the request that a connection's line makes to the stage after these events
abbrev pub turn_of : Playout → List Event → PlayedLine → Tag → Turn
turn_of playout events line tag = record { playout = playout; events = events; tag = tag; no_memory = line.no_memory }

-- the events of a line after what was played before it
abbrev pub events_at : Playout → Past → PlayedLine → ScriptLine → List Event
events_at playout past line Comment = []
events_at playout past line (Ticks count) = replicate count event.Tick
events_at playout past line (Said tag text) =
    step_events (turn_of playout past.events line tag) (said_step playout past.lines line tag)
events_at playout past line Stop = event.Stop server ∷ []
events_at playout past line Rejected = []

-- the events before some lines and those of the lines, up to the line at which the run ends
unfoldable pub events_after : Playout → Past → List PlayedLine → List Event
events_after playout past [] = past.events
events_after playout past (line ∷ lines) =
    let events = past.events ++ events_at playout past line line.line in
    if ends_at playout past.lines line line.line then events
    else events_after playout (record { lines = past.lines ++ line ∷ []; events = events }) lines

-- the history that the lines of a script make
unfoldable pub script_events : Playout → List PlayedLine → List Event
script_events playout lines = events_after playout (record { lines = []; events = [] }) lines

-- whether the run goes on after lines that follow others
unfoldable pub goes_on_after : Playout → List PlayedLine → List PlayedLine → Bool
goes_on_after playout before [] = true
goes_on_after playout before (line ∷ lines) =
    if ends_at playout before line line.line then false else goes_on_after playout (before ++ line ∷ []) lines

-- whether the run goes on after all the lines of a script
unfoldable pub goes_on : Playout → List PlayedLine → Bool
goes_on playout lines = goes_on_after playout [] lines
