-- What the work at a door did: link after link is served, each as the next session.
use Rattle.std.specs.Prelude.{◌≡◌, ◌⊎◌, ℕ, ◌+◌, ◌≤◌, Some, None, List, [], ◌∷◌, ◌++◌, sum_by}
use Rattle.play_types.specs.Config.{ConfigView}
use Rattle.play_types.specs.History.{stop_at}
use Rattle.play_types.specs.Media.{MediaNameView}
use Rattle.play_types.specs.declared.event.Event.{Event}
use Rattle.play_types.specs.declared.event.Event.TheVariants.{Stop}
use Rattle.play_outside.specs.SinkState.{SinkState}
use Rattle.play_outside.specs.Fresh.{IsNewSink}
use Rattle.play_outside.specs.ListenerState.{ListenerState, after_came, after_give_back, after_listener_closed, after_listener_fault, after_none_came}
use Rattle.stage_lock.specs.Views.{PassView}
use Rattle.stage_lock.specs.Calls.{Adds, IsStopped, Looks, tag_of}
use Rattle.conn_worker.specs.Followed.{Service}
use Rattle.conn_worker.specs.Explained.{IsExplained}
use Rattle.conn_worker.specs.declared.link_end.LinkEnd as link
use Rattle.conn_worker.specs.declared.link_end.LinkEnd.TheVariants as ends
use Rattle.conn_worker.specs.declared.work_end.TheConstants.{MAX_SESSIONS}
use Rattle.conn_worker.specs.declared.work_end.WorkEnd.{WorkEnd}
use Rattle.conn_worker.specs.declared.work_end.WorkEnd.TheVariants.{Closed, Ended, DoorFault, SessionsOver}

-- a check of the stage found a history without a stop
abbrev pub LooksOn : PassView → PassView → Type 0
LooksOn before after = Looks before (λ history. None ≡ stop_at history) after

-- a check of the stage found a history that, together with the given events before it, has a stop at this position
abbrev pub FindsEnd : List Event → ℕ → PassView → PassView → Type 0
FindsEnd given at before after = Looks before (λ history. Some at ≡ stop_at (given ++ history)) after

-- the work goes on after the serving of a link: the link is over or failed, or its client stopped the stage, and a check of the stage
-- found no stop
abbrev pub GoesOnAfter : link.LinkEnd → PassView → PassView → Type 0
GoesOnAfter ends.Over before after = LooksOn before after
GoesOnAfter ends.Killed before after = LooksOn before after
GoesOnAfter ends.LinkFault before after = LooksOn before after
GoesOnAfter (ends.Ended at) before after = ⊥

-- all events hold a stop at this position after the serving of a link: a check of the stage after the link found it, or it was found
-- while the link was served
abbrev pub StopsAfter : List Event → ℕ → link.LinkEnd → PassView → PassView → Type 0
StopsAfter given at ends.Over before after = FindsEnd given at before after
StopsAfter given at ends.Killed before after = FindsEnd given at before after
StopsAfter given at ends.LinkFault before after = FindsEnd given at before after
StopsAfter given at (ends.Ended position) before after = (position ≡ at) × (after ≡ before)

module _ (L : Type 0) where
  -- what the links of a door are served with: the configuration, the names of the media table, the number of the worker's
  -- pass, the function that gives the state of a link, and the events that the stage was given before it was shared
  pub record Setting : Type 0 where
    pub config : ConfigView
    pub names : List MediaNameView
    pub worker : ℕ
    pub tells : L → SinkState
    pub given : List Event

  -- the pass and the door at one moment
  pub record AtDoor : Type 0 where
    pub pass : PassView
    pub door : ListenerState L

  -- a link that came and was served: the link when it came and when it was given back, how its serving ended, and the pass after
  -- that
  pub record LinkRun : Type 0 where
    pub came : SinkState
    pub line : L
    pub end : link.LinkEnd
    pub pass : PassView

  -- what asking the door gave: a link, or none yet
  pub data Turn : Type 0 where
    Came : LinkRun → Turn
    NoneYet : Turn

module _ {L : Type 0} where
  -- the service of the session of this number
  abbrev pub service_of : Setting L → ℕ → Service
  service_of setting number = record { config = setting.config; names = setting.names; tag = tag_of setting.worker number; given = setting.given }

  -- a link came, was served as the session of this number from its first read on, and was given back
  pub record IsServed (setting : Setting L) (number : ℕ) (link_run : LinkRun L) (before after : AtDoor L) : Type 0 where
    pub running : stop_at before.pass.seen ≡ None
    pub new : IsNewSink link_run.came
    pub explained : IsExplained (service_of setting number) link_run.end
        (record { pass = before.pass; link = link_run.came }) (record { pass = link_run.pass; link = setting.tells link_run.line })
    pub door : after.door ≡ after_give_back (after_came before.door) link_run.line

  -- the door was asked once, and the work goes on: a link was served as the session of this number, or there was none yet, and in
  -- either case a check of the stage after that found no stop
  abbrev pub Takes : Setting L → ℕ → Turn L → AtDoor L → AtDoor L → Type 0
  Takes setting number (Came link_run) before after = IsServed setting number link_run before after × GoesOnAfter link_run.end link_run.pass after.pass
  Takes setting number NoneYet before after = LooksOn before.pass after.pass × (after.door ≡ after_none_came before.door)

  -- 1 if a link came
  abbrev pub links_come : Turn L → ℕ
  links_come (Came link_run) = 1
  links_come NoneYet = 0

  -- how many links came
  abbrev pub number_came : List (Turn L) → ℕ
  number_came turns = sum_by links_come turns

  -- the door was asked once for each turn, from the session of this number on
  abbrev pub TakesAll : Setting L → ℕ → List (Turn L) → AtDoor L → AtDoor L → Type 0
  TakesAll setting number [] before after = after ≡ before
  TakesAll setting number (turn ∷ turns) before after =
      (between : AtDoor L) × (Takes setting number turn before between × TakesAll setting (number + links_come turn) turns between after)

  -- the door answered Closed, and no stop was seen
  pub record IsClosed (before after : AtDoor L) : Type 0 where
    pub running : stop_at before.pass.seen ≡ None
    pub pass : after.pass ≡ before.pass
    pub door : after.door ≡ after_listener_closed before.door

  -- the history holds a stop: a check of the stage found it after the door had no link yet, or a link was served as the session of this
  -- number, and the stop was found while the link was served, or by the check after it. No further link is served
  abbrev pub IsStopFound : Setting L → ℕ → ℕ → AtDoor L → AtDoor L → Type 0
  IsStopFound setting number at before after =
      (FindsEnd setting.given at before.pass after.pass × (after.door ≡ after_none_came before.door))
      ⊎ ((number ≤ MAX_SESSIONS)
      × ((link_run : LinkRun L) × (IsServed setting number link_run before after × StopsAfter setting.given at link_run.end link_run.pass after.pass)))

  -- the door failed, and the worker stopped the stage with tag 0.0 unless a stop had come before
  pub record IsDoorFault (given : List Event) (before after : AtDoor L) : Type 0 where
    pub running : stop_at before.pass.seen ≡ None
    pub door : after.door ≡ after_listener_fault before.door
    pub stops : ((at : ℕ) × Adds before.pass (Stop (tag_of 0 0)) (IsStopped given at) after.pass)
        ⊎ ((at : ℕ) × Looks before.pass (λ history. stop_at (given ++ history) ≡ Some at) after.pass)

  -- MAX_SESSIONS links were served, and no stop was seen
  pub record IsSessionsOver (number : ℕ) (before after : AtDoor L) : Type 0 where
    pub all : number ≡ MAX_SESSIONS + 1
    pub running : stop_at before.pass.seen ≡ None
    pub same : after ≡ before

  -- how the work ended, if the next session would have had this number
  abbrev pub EndsWork : Setting L → ℕ → WorkEnd → AtDoor L → AtDoor L → Type 0
  EndsWork setting number Closed before after = IsClosed before after
  EndsWork setting number (Ended at) before after = IsStopFound setting number at before after
  EndsWork setting number DoorFault before after = IsDoorFault setting.given before after
  EndsWork setting number SessionsOver before after = IsSessionsOver number before after

  -- what the work at a door did, from the pass and the door before it to those after it, if `served` is the number of the last session
  -- that was used before it: links were served as the sessions `served + 1`, `served + 2` and so on, up to MAX_SESSIONS, with a check of
  -- the stage between two calls of the door, and then the work ended
  pub record HasWorkedFrom (setting : Setting L) (served : ℕ) (end : WorkEnd) (before after : AtDoor L) : Type 0 where
    pub turns : List (Turn L)
    pub between : AtDoor L
    pub takes : TakesAll setting (served + 1) turns before between
    pub few : served + number_came turns ≤ MAX_SESSIONS
    pub ending : EndsWork setting (served + 1 + number_came turns) end between after

  -- what the work at a door did if no session was used before it: links were served as the sessions 1, 2 and so on
  abbrev pub HasWorked : Setting L → WorkEnd → AtDoor L → AtDoor L → Type 0
  HasWorked setting end before after = HasWorkedFrom setting 0 end before after
