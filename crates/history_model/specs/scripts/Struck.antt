-- Lines that may be struck out of a script, since they change nothing.
use Rattle.std.specs.Prelude.{List, Option, Some, None}
use Rattle.play_types.specs.declared.reply.Reply.{Reply}
use Rattle.play_types.specs.declared.reply.Reply.TheVariants as reply
use Rattle.history_model.specs.sessions.Session.{Step, Local, Ask, AskBatch, KillServer, EndConnection, Skip}
use Rattle.history_model.specs.scripts.Line.{ScriptLine, Comment, Ticks, Said, Stop, Rejected}
use Rattle.history_model.specs.scripts.History.{Playout, PlayedLine, Turn, Verdict, JournalFull, OutOfMemory, Taken, said_step, script_events, turn_of, verdict}

-- a reply that a session gives without the stage to a line that changes nothing: a refusal, a 500, the media table or the
-- version. It is no Done, which means that a batch was opened, filled or closed
abbrev pub ReportsNoChange : Reply → Type 0
ReportsNoChange (reply.Done command) = ⊥
ReportsNoChange (reply.Value micros) = ⊥
ReportsNoChange (reply.Info statuses) = ⊥
ReportsNoChange reply.Cls = Unit {0}
ReportsNoChange reply.Version = Unit {0}
ReportsNoChange (reply.Unknown line) = Unit {0}
ReportsNoChange (reply.Refused code command) = Unit {0}
ReportsNoChange reply.NoMemory = Unit {0}

-- a command or a batch with this verdict is no event
abbrev pub IsNotTaken : Verdict → Type 0
IsNotTaken JournalFull = Unit {0}
IsNotTaken OutOfMemory = Unit {0}
IsNotTaken Taken = ⊥

-- a step that changes nothing: none, after the end of the connection; a reply that reports no change; a command that is no
-- event; or a skip, for a line without a word. A COMMIT whose batch is no event is not such a step, since it closes the batch
abbrev pub ChangesNothing : Turn → Option Step → Type 0
ChangesNothing turn None = Unit {0}
ChangesNothing turn (Some (Local answer)) = ReportsNoChange answer
ChangesNothing turn (Some (Ask command)) = IsNotTaken (verdict turn 1)
ChangesNothing turn (Some (AskBatch commands)) = ⊥
ChangesNothing turn (Some KillServer) = ⊥
ChangesNothing turn (Some EndConnection) = ⊥
ChangesNothing turn (Some Skip) = Unit {0}

-- a line that changes nothing after the lines before it: a comment, or a connection's line whose step changes nothing
abbrev pub IsIdleLine : Playout → List PlayedLine → PlayedLine → ScriptLine → Type 0
IsIdleLine playout before line Comment = Unit {0}
IsIdleLine playout before line (Ticks count) = ⊥
IsIdleLine playout before line (Said tag text) =
    ChangesNothing (turn_of playout (script_events playout before) line tag) (said_step playout before line tag)
IsIdleLine playout before line Stop = ⊥
IsIdleLine playout before line Rejected = ⊥
