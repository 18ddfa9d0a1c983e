-- Links that a door was given back, by the one history of the run.
use Rattle.std.specs.Prelude.{◌≡◌, ℕ, suc, ◌<◌, Bool, false, List, [], ◌∷◌, filter, flat_map, length, take}
use mathlib.Core.List.{IsPrefix}
use Rattle.play_types.specs.declared.event.Event.{Event}
use Rattle.play_types.specs.declared.event.Event.TheVariants.{Do, Batch, Tick, Stop}
use Rattle.play_types.specs.declared.event.Tag.{Tag}
use Rattle.history_model.specs.scripts.History.{same_tag}
use Rattle.history_model.specs.sessions.Request.{tokens}
use Rattle.play_outside.specs.SinkState.{SinkState}
use Rattle.play_outside.specs.Fresh.{IsNewSink}
use Rattle.conn_worker.specs.Followed.{Service, events_of, steps_in, steps_of, tokens_in}
use Rattle.conn_worker.specs.Rounds.{IsAfterFailure, after_rounds, bytes_in}
use Rattle.conn_worker.specs.Explained.{AreInOrder, EndsBy, IsCaughtUp, Conversation, covered}
use Rattle.conn_worker.specs.Work.{Setting, LinkRun, service_of}
use Rattle.conn_worker.specs.declared.link_end.LinkEnd.{LinkEnd}

-- whether an event has this tag: it is of this connection
abbrev pub has_tag : Tag → Event → Bool
has_tag tag (Do other cmd) = same_tag other tag
has_tag tag (Batch other cmds) = same_tag other tag
has_tag tag Tick = false
has_tag tag (Stop other) = same_tag other tag

-- the events of a history that are of this connection, in order
abbrev pub tagged : Tag → List Event → List Event
tagged tag history = filter (has_tag tag) history

-- a connection is explained by a history
pub record IsExplainedBy (service : Service) (history : List Event) (end : LinkEnd) (came left : SinkState) : Type 0 where
  -- its reads of the link with the steps that were executed after each, how the link failed, if it did, and the pass after them
  pub conversation : Conversation
  -- the executed steps are the first steps of the bytes that were read, in order
  pub steps : IsPrefix (steps_in (covered conversation)) (steps_of service (covered conversation) (bytes_in conversation.rounds))
  -- each step has the token of its line, which its reply has too
  pub tokens : IsPrefix (tokens_in (covered conversation)) (tokens (bytes_in conversation.rounds))
  -- each step found a prefix of the history, which continues with the step's event, if it has one
  pub order : AreInOrder service [] (covered conversation) history
  -- the events of this connection in the history are exactly those of the steps, in order
  pub events : tagged service.tag history ≡ flat_map (events_of service) (covered conversation)
  -- before each read all steps of the bytes read until then were executed, and none of them was an end
  pub looks : (k : ℕ) → k < length conversation.rounds → IsCaughtUp service (take k conversation.rounds)
  -- the calls of the link: after each read the replies to its steps were written, in order, before the next read; a failure comes
  -- last
  pub link : IsAfterFailure service conversation.failure (after_rounds service conversation.rounds came) left
  -- what holds of the conversation, by the end. Its pass has seen a prefix of the history
  pub ending : EndsBy service conversation end
  pub seen : IsPrefix conversation.pass.seen history

-- `Holds` is true of each element with its number, and the first element has this number
abbrev pub EachFrom : {X : Type 0} → (ℕ → X → Type 0) → ℕ → List X → Type 0
EachFrom Holds number [] = Unit {0}
EachFrom Holds number (x ∷ xs) = Holds number x × EachFrom Holds (suc number) xs

module _ {L : Type 0} where
  -- a link was new when it came, and is explained as the session of this number
  pub record IsExplainedLink (setting : Setting L) (history : List Event) (number : ℕ) (link_run : LinkRun L) : Type 0 where
    pub new : IsNewSink link_run.came
    pub explained : IsExplainedBy (service_of setting number) history link_run.end link_run.came (setting.tells link_run.line)
