-- What is written when a history is played again from its text.
use Rattle.std.specs.Prelude.{ℕ, if◌then◌else◌, Some, List, [], ◌∷◌, ◌++◌, flat_map}
use Rattle.play_types.specs.Commands.{command_name, answer_reply}
use Rattle.play_types.specs.declared.command.Cmd.{Cmd}
use Rattle.play_types.specs.declared.event.Event.{Event}
use Rattle.play_types.specs.declared.event.Event.TheVariants.{Do, Batch, Tick, Stop}
use Rattle.play_types.specs.declared.event.Tag.{Tag}
use Rattle.play_types.specs.declared.reply.Name.TheVariants as name
use Rattle.play_types.specs.declared.reply.Reply.{Reply}
use Rattle.play_types.specs.declared.reply.Reply.TheVariants as reply
use Rattle.history_model.specs.stage.Acts.{is_refused}
use Rattle.history_model.specs.stage.Answer.{command_answer, outcome_of}
use Rattle.history_model.specs.scripts.History.{Playout, same_tag, server, setup_of}
use Rattle.history_model.specs.scripts.Output.{reply_output, tick_output}
use Rattle.history_model.specs.sessions.Session.{Step, Local, Ask, AskBatch, KillServer, EndConnection, Skip}

-- what is written for a command that is added to a batch: the reply 202
abbrev pub waiting_output : Playout → Tag → Cmd → List ℕ
waiting_output playout tag cmd = reply_output playout tag (Some (reply.Done (command_name cmd)))

-- what is written for an event after the events before it: its answer, or the frames of a tick
unfoldable pub event_output : Playout → List Event → Event → List ℕ
event_output playout before (Do tag cmd) =
    let found = command_answer (setup_of playout) before (is_refused before (Do tag cmd)) cmd in
    reply_output playout tag (Some (answer_reply (command_name cmd) found))
event_output playout before (Batch tag cmds) =
    let found = outcome_of (is_refused before (Batch tag cmds)) in
    reply_output playout tag (Some (reply.Done name.Begin)) ++ flat_map (waiting_output playout tag) cmds
    ++ reply_output playout tag (Some (answer_reply name.Commit found))
event_output playout before Tick = tick_output playout before
event_output playout before (Stop tag) = if same_tag tag server then [] else reply_output playout tag (Some (reply.Done name.Kill))

-- what is written for events that follow others
abbrev pub events_output : Playout → List Event → List Event → List ℕ
events_output playout before [] = []
events_output playout before (event ∷ events) =
    event_output playout before event ++ events_output playout (before ++ event ∷ []) events

-- what is written for a history
unfoldable pub history_output : Playout → List Event → List ℕ
history_output playout history = events_output playout [] history

-- what is written for a reply 202, and nothing for another reply
abbrev pub done_output : Playout → Tag → Reply → List ℕ
done_output playout tag (reply.Done command) = reply_output playout tag (Some (reply.Done command))
done_output playout tag (reply.Value micros) = []
done_output playout tag (reply.Info statuses) = []
done_output playout tag reply.Cls = []
done_output playout tag reply.Version = []
done_output playout tag (reply.Unknown line) = []
done_output playout tag (reply.Refused code command) = []
done_output playout tag reply.NoMemory = []

-- what is written for a step that is answered 202 without the stage, as BEGIN and the commands of a batch are
abbrev pub local_output : Playout → Tag → Step → List ℕ
local_output playout tag (Local answer) = done_output playout tag answer
local_output playout tag (Ask command) = []
local_output playout tag (AskBatch commands) = []
local_output playout tag KillServer = []
local_output playout tag EndConnection = []
local_output playout tag Skip = []
