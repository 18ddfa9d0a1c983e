-- The state of a player, and how a line changes it.
use Rattle.std.specs.Prelude.{◌≡◌, ◌≢◌, ℕ, Bool, true, false, Option, Some, None, Result, Ok, Err, List, [], ◌∷◌, ◌++◌, length}
use Rattle.play_types.specs.Commands.{answer_reply, command_name}
use Rattle.play_types.specs.History.{stop_at, ticks}
use Rattle.play_types.specs.declared.answer.Answer.{Answer}
use Rattle.play_types.specs.declared.command.Cmd.{Cmd}
use Rattle.play_types.specs.declared.event.Tag.{Tag}
use Rattle.play_types.specs.declared.event.Event.{Event}
use Rattle.play_types.specs.declared.event.Event.TheVariants as event
use Rattle.play_types.specs.declared.reply.Name.{Name}
use Rattle.play_types.specs.declared.reply.Name.TheVariants as name
use Rattle.play_types.specs.declared.reply.Reply.{Reply}
use Rattle.play_types.specs.declared.reply.Reply.TheVariants as reply
use Rattle.play_outside.specs.SinkState.{SinkState, after_taking}
use Rattle.play_outside.specs.Sink.{Fails}
use Rattle.history_model.specs.pictures.Media.{Setup}
use Rattle.history_model.specs.scripts.Line.{ScriptLine, Rejected}
use Rattle.history_model.specs.scripts.History.{Playout, PlayedLine, Turn, ends_at, is_kill, script_events, setup_of, step_events, verdict, verdict_events}
use Rattle.history_model.specs.scripts.Memory.{HadMemoryIfAny, HadMemory, reply_at}
use Rattle.history_model.specs.scripts.Output.{answer_output, step_reply, verdict_reply}
use Rattle.history_model.specs.sessions.Session.{Step}
use Rattle.history_model.specs.stage.Acts.{is_refused}
use Rattle.history_model.specs.stage.Answer.{command_answer, outcome_of}
use Rattle.stage_core.specs.declared.fault.ApplyFault.{ApplyFault}
use Rattle.stage_core.specs.declared.fault.ApplyFault.TheVariants as fault
use Rattle.script_player.specs.Playouts.{playout_of}
use Rattle.script_player.specs.declared.ending.Halt.{Halt}
use Rattle.script_player.specs.declared.ending.Halt.TheVariants as halt
use Rattle.script_player.specs.declared.player.Player.{Player}
use Rattle.script_player.specs.Clients.{AreClients, HaveAimedBatches}
use Rattle.script_player.specs.Shown.{NeedsMemory, Shown, memory_needed, shown_line}

-- the playout of a player: its setup, and how frames are written
abbrev pub playout_in : Player → Playout
playout_in player = playout_of player.setup player.digests

-- its channels and clips
abbrev pub setup_in : Player → Setup
setup_in player = setup_of (playout_in player)

-- the history so far: the journal of the stage
abbrev pub events_in : Player → List Event
events_in player = player.stage.journal.events

-- the number of channels
abbrev pub channels_in : Player → ℕ
channels_in player = length player.setup.config.channels

-- the player can go on: the stage, the scenes and the batches are those of the configuration, and the history holds no stop
pub record IsReady (player : Player) : Type 0 where
  pub limit : player.stage.journal.limit ≡ player.setup.config.journal_limit
  pub channels : player.stage.channels ≡ channels_in player
  pub scenes : length player.scenes ≡ channels_in player
  pub batches : HaveAimedBatches player.setup.config player.clients.list.items
  pub running : stop_at (events_in player) ≡ None

-- these events were appended to the history, and the setup, the options, the connections and the number of channels did not change
pub record MakesEvents (events : List Event) (old new : Player) : Type 0 where
  pub setup : new.setup ≡ old.setup
  pub digests : new.digests ≡ old.digests
  pub memory : new.needs_memory ≡ old.needs_memory
  pub clients : new.clients ≡ old.clients
  pub channels : new.stage.channels ≡ old.stage.channels
  pub history : events_in new ≡ events_in old ++ events

-- events that are no ticks were appended to the history, and the setup and the number of channels did not change
pub record MakesNoTick (old new : Player) : Type 0 where
  pub setup : new.setup ≡ old.setup
  pub channels : new.stage.channels ≡ old.stage.channels
  pub made : List Event
  pub none : ticks made ≡ 0
  pub history : events_in new ≡ events_in old ++ made

-- the player has this playout and the history of the lines
pub record HasHistory (playout : Playout) (played : List PlayedLine) (player : Player) : Type 0 where
  pub on : playout_in player ≡ playout
  pub events : events_in player ≡ script_events playout played

-- the player is as the lines left it: it has their history, and serves their connections
pub record Represents (shown : Shown) (playout : Playout) (player : Player) (played : List PlayedLine) : Type 0 where
  pub memory : player.needs_memory ≡ memory_needed shown
  pub on : playout_in player ≡ playout
  pub history : events_in player ≡ script_events playout played
  pub clients : AreClients playout player.clients.list.items played

-- the text was written, or a write of it failed
abbrev pub WritesText : Result (Unit {0}) Halt → List ℕ → SinkState → SinkState → Type 0
WritesText (Ok done) text before after = after ≡ after_taking before text
WritesText (Err halt.Write) text before after = Fails text before after
WritesText (Err halt.Memory) text before after = ⊥
WritesText (Err halt.Stop) text before after = ⊥
WritesText (Err halt.Rejected) text before after = ⊥

-- a reply, and whether the run stops if it reports out of memory
pub record Answering : Type 0 where
  pub answer : Reply
  pub needs_memory : Bool

-- a reply of a player
abbrev pub answering : Player → Reply → Answering
answering player answer = record { answer = answer; needs_memory = player.needs_memory }

-- the text of a reply was written, and the reply is returned; or a write of it failed; or the reply reports out of memory, so that the
-- run stops and nothing was written
abbrev pub WritesReply : Answering → Result (Option Reply) Halt → List ℕ → SinkState → SinkState → Type 0
WritesReply one (Ok replied) text before after =
    (replied ≡ Some one.answer) × (after ≡ after_taking before text) × (one.needs_memory ≡ true → HadMemory one.answer)
WritesReply one (Err halt.Write) text before after = Fails text before after
WritesReply one (Err halt.Memory) text before after =
    (one.needs_memory ≡ true) × (HadMemory one.answer → ⊥) × (after ≡ before)
WritesReply one (Err halt.Stop) text before after = ⊥
WritesReply one (Err halt.Rejected) text before after = ⊥

-- a turn in which a connection of the player asks the stage, with memory or without
abbrev pub turn_in : Player → Tag → Bool → Turn
turn_in player tag no_memory = record {
  playout = playout_in player;
  events = events_in player;
  tag = tag;
  no_memory = no_memory;
}

-- a request to the stage: its event, the number of commands in it, the name in its reply, and its answer if it becomes an event
pub record Request : Type 0 where
  pub event : Event
  pub commands : ℕ
  pub name : Name
  pub answer : Answer

-- the request of a command by a connection of the player
abbrev pub command_request : Player → Tag → Cmd → Request
command_request player tag command = record {
  event = event.Do tag command;
  commands = 1;
  name = command_name command;
  answer = command_answer (setup_in player) (events_in player) (is_refused (events_in player) (event.Do tag command)) command;
}

-- the request of a batch by a connection of the player
abbrev pub batch_request : Player → Tag → List Cmd → Request
batch_request player tag commands = record {
  event = event.Batch tag commands;
  commands = length commands;
  name = name.Commit;
  answer = outcome_of (is_refused (events_in player) (event.Batch tag commands));
}

-- the request was not refused because the history had ended
abbrev pub IsGoingOn : Result Answer ApplyFault → Type 0
IsGoingOn (Ok answer) = Unit {0}
IsGoingOn (Err fault.OutOfMemory) = Unit {0}
IsGoingOn (Err (fault.JournalFull held)) = Unit {0}
IsGoingOn (Err (fault.Ended at)) = ⊥

-- the reply to a command or a batch of this name: its answer, 501 if there was no memory, or 503 if the journal was full
abbrev pub RepliesTo : Name → Result Answer ApplyFault → Reply → Type 0
RepliesTo asked (Ok answer) found = found ≡ answer_reply asked answer
RepliesTo asked (Err fault.OutOfMemory) found = found ≡ reply.Refused 501 asked
RepliesTo asked (Err (fault.JournalFull held)) found = found ≡ reply.Refused 503 asked
RepliesTo asked (Err (fault.Ended at)) found = ⊥

-- a request of a connection was done or refused: the reply and the new events are those of its verdict, with memory or without
pub record DoesRequest (tag : Tag) (request : Request) (found : Reply) (old new : Player) : Type 0 where
  pub no_memory : Bool
  pub replies : found ≡ verdict_reply request.name request.answer (verdict (turn_in old tag no_memory) request.commands)
  pub makes : MakesEvents (verdict_events request.event (verdict (turn_in old tag no_memory) request.commands)) old new

-- a step of a connection, none if the connection had already ended, its turn, the token of its line, and whether the run stops at a reply
-- that reports out of memory
pub record NextStep : Type 0 where
  pub needs_memory : Bool
  pub turn : Turn
  pub step : Option Step
  pub token : Option (List ℕ)

-- the text that is written for a step
abbrev pub step_text : NextStep → List ℕ
step_text next = answer_output next.turn.playout next.turn.tag next.token (step_reply next.turn next.step)

-- the reply to the step may be written: it does not report out of memory, or the run does not need memory
abbrev pub MayReply : NextStep → Type 0
MayReply next = next.needs_memory ≡ true → HadMemoryIfAny (step_reply next.turn next.step)

-- the step was executed with this reply, if there is one, and the run goes on; or it was a kill, at which the run ends; or a write of the
-- reply failed; or the run stops at the reply, which reports out of memory and was not written
abbrev pub IsFollowed : NextStep → Result (Option Reply) Halt → List Event → SinkState → SinkState → Type 0
IsFollowed next (Ok replied) made before after =
    (is_kill next.step ≡ false) × (made ≡ step_events next.turn next.step) × (after ≡ after_taking before (step_text next))
    × (replied ≡ step_reply next.turn next.step) × MayReply next
IsFollowed next (Err halt.Stop) made before after =
    (is_kill next.step ≡ true) × (made ≡ step_events next.turn next.step) × (after ≡ after_taking before (step_text next))
    × MayReply next
IsFollowed next (Err halt.Write) made before after = Fails (step_text next) before after
IsFollowed next (Err halt.Memory) made before after = (next.needs_memory ≡ true) × (after ≡ before)
IsFollowed next (Err halt.Rejected) made before after = ⊥

-- a step of a connection of the player, none if the connection had already ended, and the token of its line
pub record Given : Type 0 where
  pub player : Player
  pub tag : Tag
  pub step : Option Step
  pub token : Option (List ℕ)

-- the step in its turn, with memory in the stage or without
abbrev pub step_in_turn : Given → Bool → NextStep
step_in_turn given no_memory = record {
  needs_memory = given.player.needs_memory;
  turn = turn_in given.player given.tag no_memory;
  step = given.step;
  token = given.token;
}

-- the step was executed: it appended these events, with memory in the stage or without
pub record FollowsStep (given : Given) (result : Result (Option Reply) Halt) (new : Player) (before after : SinkState) : Type 0 where
  pub no_memory : Bool
  pub made : List Event
  pub makes : MakesEvents made given.player new
  pub follows : IsFollowed (step_in_turn given no_memory) result made before after

-- a line of a script after those that were played before it
pub record NextLine : Type 0 where
  pub playout : Playout
  pub shown : Shown
  pub before : List PlayedLine
  pub line : ScriptLine

-- whether there was no memory at a line: in its session, or in the stage
pub record Marks : Type 0 where
  pub given_up : Bool
  pub no_memory : Bool

-- there was memory for both
abbrev pub no_marks : Marks
no_marks = record { given_up = false; no_memory = false }

-- the line as it was played
abbrev pub played_line : NextLine → Marks → PlayedLine
played_line next marks = record { line = next.line; given_up = marks.given_up; no_memory = marks.no_memory }

-- the text that is written for the line
abbrev pub line_text : NextLine → Marks → List ℕ
line_text next marks = shown_line next.shown next.playout next.before (played_line next marks) next.line

-- whether the run ends at the line
abbrev pub ends_run : NextLine → Marks → Bool
ends_run next marks = ends_at next.playout next.before (played_line next marks) next.line

-- the reply to the line, if there is one
abbrev pub line_reply : NextLine → Marks → Option Reply
line_reply next marks = reply_at next.playout next.before (played_line next marks) next.line

-- the line was executed completely, with this reply, if there is one, and the run goes on
pub record IsLineDone (next : NextLine) (replied : Option Reply) (player : Player) (before after : SinkState) : Type 0 where
  pub marks : Marks
  pub accepted : next.line ≢ Rejected
  pub goes_on : ends_run next marks ≡ false
  pub represents : Represents next.shown next.playout player (next.before ++ played_line next marks ∷ [])
  pub replies : replied ≡ line_reply next marks
  pub memory : NeedsMemory next.shown → HadMemoryIfAny (line_reply next marks)
  pub written : after ≡ after_taking before (line_text next marks)

-- the line was executed completely, the run ends, and the history ends with a stop
pub record IsLastLine (next : NextLine) (player : Player) (before after : SinkState) : Type 0 where
  pub marks : Marks
  pub accepted : next.line ≢ Rejected
  pub ends : ends_run next marks ≡ true
  pub history : HasHistory next.playout (next.before ++ played_line next marks ∷ []) player
  pub memory : NeedsMemory next.shown → HadMemoryIfAny (line_reply next marks)
  pub written : after ≡ after_taking before (line_text next marks)

-- a write of the text of the line failed
pub record IsLineFailed (next : NextLine) (before after : SinkState) : Type 0 where
  pub marks : Marks
  pub accepted : next.line ≢ Rejected
  pub fails : Fails (line_text next marks) before after

-- the line was played: the run goes on, or ends, or a write failed; out of memory, or if the line is rejected, nothing was written for it
abbrev pub PlaysLine : NextLine → Result (Option Reply) Halt → Player → SinkState → SinkState → Type 0
PlaysLine next (Ok replied) player before after = IsLineDone next replied player before after
PlaysLine next (Err halt.Stop) player before after = IsLastLine next player before after
PlaysLine next (Err halt.Write) player before after = IsLineFailed next before after
PlaysLine next (Err halt.Memory) player before after = after ≡ before
PlaysLine next (Err halt.Rejected) player before after = (next.line ≡ Rejected) × (after ≡ before)
