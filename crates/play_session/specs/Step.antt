-- Steps of a session as steps of the definition of sessions.
use Rattle.std.specs.Prelude.{Bool, true, false, Option, Some, None, List}
use Rattle.play_types.specs.declared.command.Cmd.{Cmd}
use Rattle.play_types.specs.declared.reply.Reply.{Reply}
use Rattle.play_types.specs.declared.reply.Reply.TheVariants as reply
use Rattle.history_model.specs.sessions.Session as model
use Rattle.play_session.specs.declared.step.Step.{Step}
use Rattle.play_session.specs.declared.step.Step.TheVariants as step

-- the step of the definition, with the commands of the batch that is asked for; none if more bytes are needed
abbrev pub viewed : Step → List Cmd → Option model.Step
viewed (step.Local answer) commands = Some (model.Local answer)
viewed (step.Ask command) commands = Some (model.Ask command)
viewed step.AskBatch commands = Some (model.AskBatch commands)
viewed step.Kill commands = Some model.KillServer
viewed step.Bye commands = Some model.EndConnection
viewed step.Skip commands = Some model.Skip
viewed step.NeedMore commands = None

-- whether a step ends the connection
abbrev pub ends : Step → Bool
ends (step.Local answer) = false
ends (step.Ask command) = false
ends step.AskBatch = false
ends step.Kill = true
ends step.Bye = true
ends step.Skip = false
ends step.NeedMore = false

-- whether a reply says that the server is out of memory
abbrev pub is_out_of_memory : Reply → Bool
is_out_of_memory (reply.Done command) = false
is_out_of_memory (reply.Value micros) = false
is_out_of_memory (reply.Info statuses) = false
is_out_of_memory reply.Cls = false
is_out_of_memory reply.Version = false
is_out_of_memory (reply.Unknown line) = false
is_out_of_memory (reply.Refused code command) = false
is_out_of_memory reply.NoMemory = true

-- whether a step gives up its line because memory ran out
abbrev pub gives_up : Step → Bool
gives_up (step.Local answer) = is_out_of_memory answer
gives_up (step.Ask command) = false
gives_up step.AskBatch = false
gives_up step.Kill = false
gives_up step.Bye = false
gives_up step.Skip = false
gives_up step.NeedMore = false
