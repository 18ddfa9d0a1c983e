-- What the serving of one link did: an explained connection.
use Rattle.std.specs.Prelude.{◌≡◌, ◌≢◌, ◌⊎◌, ℕ, ◌+◌, ◌<◌, false, Option, Some, None, List, [], ◌∷◌, ◌++◌, flat_map, length, slice_get, take}
use Rattle.std.specs.List.{last_or, list_any}
use mathlib.Core.List.{IsPrefix}
use Rattle.play_types.specs.History.{stop_at}
use Rattle.play_types.specs.declared.event.Event.{Event}
use Rattle.history_model.specs.sessions.Request.{tokens}
use Rattle.history_model.specs.sessions.Session.{Step, KillServer, EndConnection, is_end}
use Rattle.play_outside.specs.SinkState.{SinkState}
use Rattle.stage_lock.specs.Own.{made_by, own_by}
use Rattle.stage_lock.specs.Views.{PassView}
use Rattle.conn_worker.specs.Followed.{Service, Followed, events_of, number_asked, positions_of, steps_in, steps_of, times_asked, tokens_in}
use Rattle.conn_worker.specs.Rounds.{Look, Got, End, Nothing, Round, Failure, NoFailure, ReadFailed, AreLeftOpen, IsAfterFailure, after_rounds, bytes_in, end_round, finds_in, followed_in, idle_round, looks_in, number_idle, unsent}
use Rattle.conn_worker.specs.declared.link_end.LinkEnd.{LinkEnd}
use Rattle.conn_worker.specs.declared.link_end.LinkEnd.TheVariants.{Over, Killed, LinkFault, Ended}

-- the pass and the link at one moment
pub record Standing : Type 0 where
  pub pass : PassView
  pub link : SinkState

-- the steps were executed one after another: the first found a history that begins with `seen`, each next one a history that
-- begins with what the one before it found and made, and `history` begins with what the last one found and made
abbrev pub AreInOrder : Service → List Event → List Followed → List Event → Type 0
AreInOrder service seen [] history = IsPrefix seen history
AreInOrder service seen (one ∷ more) history =
    IsPrefix seen one.found × AreInOrder service (one.found ++ events_of service one) more history

-- a pass executed these steps, and made their events and no others
pub record HasMade (service : Service) (followed : List Followed) (before after : PassView) : Type 0 where
  pub stage : after.stage ≡ before.stage
  pub number : after.number ≡ before.number
  pub ends : after.ends ≡ before.ends
  -- each event is in the history at its place
  pub order : AreInOrder service before.seen followed after.seen
  -- the own events of the pass are those from before, and then exactly those of the steps, in order
  pub own : own_by before.number after.seen ≡ own_by before.number before.seen ++ flat_map (events_of service) followed
  pub made : after.made ≡ before.made ++ flat_map (positions_of service) followed
  -- the positions that the pass made are those of its own events, if this was so before
  pub known : made_by before.number before.seen ≡ before.made → made_by before.number after.seen ≡ after.made

-- after these rounds all steps of the bytes that were read have been executed, and none of them is an end. No read found the end of
-- the link, and no check of the stage after an idle read found a stop
pub record IsCaughtUp (service : Service) (rounds : List Round) : Type 0 where
  pub all : steps_in (followed_in rounds) ≡ steps_of service (followed_in rounds) (bytes_in rounds)
  pub going : list_any is_end (steps_in (followed_in rounds)) ≡ false
  pub left_open : AreLeftOpen rounds

-- the rounds of a link, how it failed, if it did, and the pass after them
pub record Conversation : Type 0 where
  pub rounds : List Round
  pub failure : Failure
  pub pass : PassView

-- all steps that were executed
abbrev pub covered : Conversation → List Followed
covered conversation = followed_in conversation.rounds ++ unsent conversation.failure

-- every step of the bytes that were read was executed
abbrev pub AreAllCovered : Service → Conversation → Type 0
AreAllCovered service conversation = steps_in (covered conversation) ≡ steps_of service (covered conversation) (bytes_in conversation.rounds)

-- what the last read found
abbrev pub last_look : List Round → Option Look
last_look rounds = last_or None (looks_in rounds)

-- the last read, with the steps that were executed after it
abbrev pub last_round : List Round → Option Round
last_round rounds = last_or None rounds

-- all steps were executed. The last read found nothing yet, and the history that was found then is the one that the pass has seen
pub record HasFoundStop (service : Service) (conversation : Conversation) : Type 0 where
  pub all : AreAllCovered service conversation
  pub last : last_round conversation.rounds ≡ Some (idle_round conversation.pass.seen)

-- the first step that was not executed is a command, a batch or a kill. The last read found bytes, and no read found the end of the
-- link or a stop
pub record IsNextAsked (service : Service) (conversation : Conversation) : Type 0 where
  pub step : Step
  pub next : slice_get (steps_of service (covered conversation) (bytes_in conversation.rounds)) (length (covered conversation)) ≡ Some step
  pub asked : times_asked step ≡ 1
  pub piece : List ℕ
  pub last : last_look conversation.rounds ≡ Some (Got piece)
  pub left_open : AreLeftOpen conversation.rounds

-- the step that was executed last
abbrev pub last_step : List Followed → Option Step
last_step followed = last_or None (steps_in followed)

-- the link did not fail, no stop was seen, and all steps were executed. The last read found the end of the link, and no step came after
-- it; or the last step is BYE, and no read found the end of the link
pub record IsOver (service : Service) (conversation : Conversation) : Type 0 where
  pub whole : conversation.failure ≡ NoFailure
  pub running : stop_at conversation.pass.seen ≡ None
  pub all : AreAllCovered service conversation
  pub cause : (last_round conversation.rounds ≡ Some end_round)
      ⊎ ((last_step (covered conversation) ≡ Some EndConnection) × AreLeftOpen conversation.rounds)

-- no read failed, and all steps were executed. The last step is a kill, which made the stop of the history; its reply was written unless
-- the link failed. No read found the end of the link, and none a stop
pub record IsKilled (service : Service) (conversation : Conversation) : Type 0 where
  pub read : conversation.failure ≢ ReadFailed
  pub all : AreAllCovered service conversation
  pub cause : last_step (covered conversation) ≡ Some KillServer
  pub left_open : AreLeftOpen conversation.rounds

-- the link failed: no executed step is an end, no read found the end of the link, and no stop was seen. Before a read that failed all
-- steps had been executed
pub record IsLinkFault (service : Service) (conversation : Conversation) : Type 0 where
  pub failed : conversation.failure ≢ NoFailure
  pub going : list_any is_end (steps_in (covered conversation)) ≡ false
  pub left_open : AreLeftOpen conversation.rounds
  pub caught_up : conversation.failure ≡ ReadFailed → IsCaughtUp service conversation.rounds
  pub running : stop_at conversation.pass.seen ≡ None

-- all events hold a stop at this position, and no executed step is an end, so another call made it. Either all steps were executed, the
-- last read found nothing yet, and the check of the stage then found the stop; or the stage refused the first step that was not
-- executed. No read found the end of the link
pub record IsEnded (service : Service) (conversation : Conversation) (at : ℕ) : Type 0 where
  pub whole : conversation.failure ≡ NoFailure
  pub going : list_any is_end (steps_in (covered conversation)) ≡ false
  pub stopped : stop_at (service.given ++ conversation.pass.seen) ≡ Some at
  pub next : HasFoundStop service conversation ⊎ IsNextAsked service conversation

-- what holds of the conversation, by the end
abbrev pub EndsBy : Service → Conversation → LinkEnd → Type 0
EndsBy service conversation Over = IsOver service conversation
EndsBy service conversation Killed = IsKilled service conversation
EndsBy service conversation LinkFault = IsLinkFault service conversation
EndsBy service conversation (Ended at) = IsEnded service conversation at

-- 1 if the stage was asked for one more step and refused it because another call had stopped it: then the last read found bytes
abbrev pub number_refused : LinkEnd → Option Look → ℕ
number_refused Over look = 0
number_refused Killed look = 0
number_refused LinkFault look = 0
number_refused (Ended at) None = 0
number_refused (Ended at) (Some (Got bytes)) = 1
number_refused (Ended at) (Some End) = 0
number_refused (Ended at) (Some (Nothing history)) = 0

-- what one call to serve a link did, from the pass and the link before it to those after it. There are rounds, each a read of
-- the link and the steps that were executed after it, and a failure of the link, or none
pub record IsExplained (service : Service) (end : LinkEnd) (before after : Standing) : Type 0 where
  pub rounds : List Round
  pub failure : Failure
  -- the executed steps are the first steps of the bytes that were read, in order
  pub steps : let followed = followed_in rounds ++ unsent failure in
      IsPrefix (steps_in followed) (steps_of service followed (bytes_in rounds))
  -- each step has the token of its line, which its reply has too
  pub tokens : IsPrefix (tokens_in (followed_in rounds ++ unsent failure)) (tokens (bytes_in rounds))
  -- their events, and no others, are what the pass made, each at its place in the history
  pub made : HasMade service (followed_in rounds ++ unsent failure) before.pass after.pass
  -- each step, and each check of the stage after an idle read, found a history that begins with what was found and made before it
  pub found : AreInOrder service before.pass.seen (finds_in rounds ++ unsent failure) after.pass.seen
  -- before each read all steps of the bytes read until then were executed, none of them was an end, and no read had found the end of
  -- the link or a stop: no read comes after an end
  pub looks : (k : ℕ) → k < length rounds → IsCaughtUp service (take k rounds)
  -- the calls of the link: after each read the replies to its steps were written, in order, before the next read; a failure comes
  -- last
  pub link : IsAfterFailure service failure (after_rounds service rounds before.link) after.link
  -- the pass won the turn of the stage once for each command, batch and kill, once for each read that found nothing yet, and once if the
  -- stage refused a step
  pub turns : after.pass.turns ≡ before.pass.turns + number_asked (followed_in rounds ++ unsent failure) + number_idle rounds
      + number_refused end (last_look rounds)
  -- what holds of the conversation, by the end
  pub ending : EndsBy service (record { rounds = rounds; failure = failure; pass = after.pass }) end
