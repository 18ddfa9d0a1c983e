-- What the execution of one step does.
use Rattle.std.specs.Prelude.{◌≡◌, ℕ, ◌+◌, ◌≤◌, Option, Some, None, Result, Ok, Err, List, ◌++◌}
use mathlib.Core.List.{IsPrefix}
use Rattle.play_types.specs.Commands.{answer_reply}
use Rattle.play_types.specs.History.{stop_at}
use Rattle.play_types.specs.declared.event.Event.{Event}
use Rattle.play_types.specs.declared.answer.Answer.{Answer}
use Rattle.play_types.specs.declared.reply.Name.{Name}
use Rattle.play_types.specs.declared.reply.Reply.{Reply}
use Rattle.play_types.specs.declared.reply.Reply.TheVariants.{Refused}
use Rattle.history_model.specs.sessions.Session.{Step}
use Rattle.play_outside.specs.SinkState.{SinkState}
use Rattle.play_outside.specs.Sink.{Sends}
use Rattle.play_outside.specs.declared.sink.Sent.{Sent}
use Rattle.play_outside.specs.declared.sink.Sent.TheVariants as sent
use Rattle.stage_core.specs.declared.fault.ApplyFault.{ApplyFault}
use Rattle.stage_core.specs.declared.fault.ApplyFault.TheVariants as fault
use Rattle.stage_lock.specs.Own.{made_by, own_by}
use Rattle.stage_lock.specs.Views.{PassView}
use Rattle.stage_lock.specs.Calls.{IsFound, looked, tag_of}
use Rattle.conn_worker.specs.Followed.{Service, Followed, events_of, positions_of, reply_of, sent_bytes, times_asked}
use Rattle.conn_worker.specs.Explained.{Standing}
use Rattle.conn_worker.specs.Server.{HasStageOfConfig}
use Rattle.conn_worker.specs.declared.connection.Connection.{Connection}
use Rattle.conn_worker.specs.declared.link_end.LinkEnd.{LinkEnd}
use Rattle.conn_worker.specs.declared.link_end.LinkEnd.TheVariants.{Over, Killed, LinkFault, Ended}

-- what a connection is served with, if its pass has the number `worker`
abbrev pub service_in : Connection → ℕ → Service
service_in connection worker =
    record {
      config = connection.server.config.now;
      names = connection.server.media.now;
      tag = tag_of worker connection.number;
      given = connection.server.stage.now.sizes.given;
    }

-- the stage was made for the configuration, and the number of the connection is at least 1
pub record IsReady (connection : Connection) : Type 0 where
  pub stage : HasStageOfConfig connection.server
  pub number : 1 ≤ connection.number

-- a pass executed one step, and made its event and no other
pub record MakesStep (service : Service) (one : Followed) (before after : PassView) : Type 0 where
  pub stage : after.stage ≡ before.stage
  pub number : after.number ≡ before.number
  pub ends : after.ends ≡ before.ends
  pub found : IsPrefix before.seen one.found
  pub seen : after.seen ≡ one.found ++ events_of service one
  pub own : own_by before.number after.seen ≡ own_by before.number before.seen ++ events_of service one
  pub made : after.made ≡ before.made ++ positions_of service one
  pub turns : after.turns ≡ before.turns + times_asked one.step
  pub known : made_by before.number before.seen ≡ before.made → made_by before.number after.seen ≡ after.made

-- the stage was asked for a step, and this is its reply
pub record Answers (service : Service) (step : Step) (reply : Reply) (before after : PassView) : Type 0 where
  pub one : Followed
  pub step_is : one.step ≡ step
  pub reply_is : reply_of service one ≡ Some reply
  pub makes : MakesStep service one before after

-- a call found a stop that another call made, at this position among all events
pub record FindsStop (given : List Event) (at : ℕ) (before after : PassView) : Type 0 where
  pub history : List Event
  pub found : IsFound before history
  pub stop : stop_at (given ++ history) ≡ Some at
  pub after_is : after ≡ looked before history

-- a step was executed, and the reply to it was sent, with the token of its line
pub record Follows (service : Service) (token : Option (List ℕ)) (step : Step) (sent : Sent) (before after : Standing) : Type 0 where
  pub one : Followed
  pub step_is : one.step ≡ step
  pub token_is : one.token ≡ token
  pub makes : MakesStep service one before.pass after.pass
  pub sends : Sends sent (sent_bytes service one) before.link after.link

-- the reply to a command or a batch of this name, or the end of the call if the stage was stopped
abbrev pub replied : Name → Result Answer ApplyFault → Result Reply LinkEnd
replied name (Ok answer) = Ok (answer_reply name answer)
replied name (Err fault.OutOfMemory) = Ok (Refused 501 name)
replied name (Err (fault.JournalFull held)) = Ok (Refused 503 name)
replied name (Err (fault.Ended at)) = Err (Ended at)

-- the stage was asked for a step and gave this reply, or it was stopped before
abbrev pub AsksFor : Service → Step → Result Reply LinkEnd → PassView → PassView → Type 0
AsksFor service step (Ok reply) before after = Answers service step reply before after × (stop_at after.seen ≡ None)
AsksFor service step (Err Over) before after = ⊥
AsksFor service step (Err Killed) before after = ⊥
AsksFor service step (Err LinkFault) before after = ⊥
AsksFor service step (Err (Ended at)) before after = FindsStop service.given at before after

-- the bytes were written, or the link failed after a prefix of them
abbrev pub SendsBytes : List ℕ → Result (Unit {0}) LinkEnd → SinkState → SinkState → Type 0
SendsBytes bytes (Ok done) before after = Sends sent.All bytes before after
SendsBytes bytes (Err Over) before after = ⊥
SendsBytes bytes (Err Killed) before after = ⊥
SendsBytes bytes (Err LinkFault) before after = Sends sent.Failed bytes before after
SendsBytes bytes (Err (Ended at)) before after = ⊥
