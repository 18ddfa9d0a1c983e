-- The links that the doors of a run were given back, by the one history of the run.
use Rattle.std.specs.Prelude.{◌≡◌, ◌⊎◌, ℕ, suc, ◌+◌, ◌<◌, ◌≤◌, ◌==◌, ◌||◌, max, if◌then◌else◌, Bool, true, false, Some, List, [], ◌∷◌, ◌++◌, length, map, option_map}
use Rattle.play_types.specs.History.{stop_at}
use Rattle.play_types.specs.declared.event.Event.{Event}
use Rattle.play_types.specs.declared.event.Event.TheVariants.{Do, Batch, Tick, Stop}
use Rattle.play_types.specs.declared.event.Tag.{Tag}
use Rattle.play_outside.specs.Faults.{Rose, one_more}
use Rattle.play_outside.specs.ListenerState.{ListenerState, ListenerTold}
use Rattle.conn_worker.specs.Work.{Setting, LinkRun}
use Rattle.conn_worker.specs.declared.link_end.LinkEnd as link
use Rattle.conn_worker.specs.declared.link_end.LinkEnd.TheVariants as ends
use Rattle.conn_worker.specs.declared.work_end.TheConstants.{MAX_SESSIONS}
use Rattle.conn_worker.specs.declared.work_end.WorkEnd.{WorkEnd}
use Rattle.conn_worker.specs.declared.work_end.WorkEnd.TheVariants.{Closed, Ended, DoorFault, SessionsOver}
use Rattle.server_run.specs.Links.{EachFrom, IsExplainedLink}

-- the session of a tag of this worker, and 0 for a tag of another worker
abbrev pub session_by : ℕ → Tag → ℕ
session_by worker tag = if tag.worker == worker then tag.session else 0

-- the greatest session of the tags with this worker in a history, and 0 if there is none
abbrev pub last_session : ℕ → List Event → ℕ
last_session worker [] = 0
last_session worker (Do tag cmd ∷ events) = max (session_by worker tag) (last_session worker events)
last_session worker (Batch tag cmds ∷ events) = max (session_by worker tag) (last_session worker events)
last_session worker (Tick ∷ events) = last_session worker events
last_session worker (Stop tag ∷ events) = max (session_by worker tag) (last_session worker events)

-- whether the serving of a link ended because of a stop that another call made
abbrev pub is_stopped : link.LinkEnd → Bool
is_stopped ends.Over = false
is_stopped ends.Killed = false
is_stopped ends.LinkFault = false
is_stopped (ends.Ended at) = true

-- whether the work at a door ended because the door answered Closed
abbrev pub is_closed : WorkEnd → Bool
is_closed Closed = true
is_closed (Ended at) = false
is_closed DoorFault = false
is_closed SessionsOver = false

-- whether the work at a door ended because the door failed
abbrev pub is_door_fault : WorkEnd → Bool
is_door_fault Closed = false
is_door_fault (Ended at) = false
is_door_fault DoorFault = true
is_door_fault SessionsOver = false

-- the count of faults of a door after the work at it
abbrev pub faults_after : WorkEnd → ℕ → ℕ
faults_after Closed faults = faults
faults_after (Ended at) faults = faults
faults_after DoorFault faults = one_more faults
faults_after SessionsOver faults = faults

module _ (L : Type 0) where
  -- the work at a door: the links that were served and given back, in order, and how it ended
  pub record DoorRun : Type 0 where
    pub links : List (LinkRun L)
    pub end : WorkEnd

module _ {L : Type 0} where
  -- none of these links but the last ended because of a stop that another call made
  abbrev pub OnlyLastIsStopped : List (LinkRun L) → Type 0
  OnlyLastIsStopped [] = Unit {0}
  OnlyLastIsStopped (link_run ∷ []) = Unit {0}
  OnlyLastIsStopped (link_run ∷ next ∷ link_runs) = (is_stopped link_run.end ≡ false) × OnlyLastIsStopped (next ∷ link_runs)

  -- what a door has recorded after the work at it: the links that it was given back, and whether it answered Closed
  abbrev pub given_back : DoorRun L → ListenerTold L → ListenerTold L
  given_back run told = record {
    returned = told.returned ++ map (λ (link_run : LinkRun L). link_run.line) run.links;
    closed = told.closed || is_closed run.end;
  }

  -- a door was asked: a link came, it answered Closed, it failed, or it had no link yet
  abbrev pub WasAsked : DoorRun L → ListenerState L → ListenerState L → Type 0
  WasAsked run before after =
      (0 < length run.links) ⊎ ((is_closed run.end ≡ true) ⊎ ((is_door_fault run.end ≡ true) ⊎ Rose before.idle after.idle))

  -- the number of the last session of a worker in the events before the run
  abbrev pub served_before : Setting L → ℕ
  served_before setting = last_session setting.worker setting.given

  -- what holds of the events before the run and the events of the run, by the end of the work at a door
  abbrev pub EndsByHistory : Setting L → List Event → List (LinkRun L) → WorkEnd → Type 0
  EndsByHistory setting history links Closed = Unit {0}
  EndsByHistory setting history links (Ended at) = stop_at (setting.given ++ history) ≡ Some at
  EndsByHistory setting history links DoorFault = Unit {0}
  EndsByHistory setting history links SessionsOver = served_before setting + length links ≡ MAX_SESSIONS

  -- the work at a door, from the door before it to the door after it, by the events of the run. Each link that came was served as the
  -- session of its place, and was given back. The sessions are counted from the one after the last session of the worker in the events
  -- before the run, up to MAX_SESSIONS
  pub record HasServed (setting : Setting L) (history : List Event) (run : DoorRun L) (before after : ListenerState L) : Type 0 where
    pub links : EachFrom (IsExplainedLink setting history) (served_before setting + 1) run.links
    pub last : OnlyLastIsStopped run.links
    pub told : after.told ≡ option_map (given_back run) before.told
    pub away : after.away ≡ before.away
    pub faults : after.faults ≡ faults_after run.end before.faults
    pub mark : after.mark ≡ before.mark
    -- the door was asked, if a session was left
    pub asked : served_before setting < MAX_SESSIONS → WasAsked run before after
    pub few : served_before setting + length run.links ≤ MAX_SESSIONS
    pub ending : EndsByHistory setting history run.links run.end

  -- the tag is that of a link that one of these doors was given back in a run after the given events. The first door is that of the worker
  -- with this number
  abbrev pub IsTagOfLink : List Event → ℕ → List (DoorRun L) → Tag → Type 0
  IsTagOfLink given worker [] tag = ⊥
  IsTagOfLink given worker (run ∷ runs) tag =
      ((tag.worker ≡ worker) × (last_session worker given < tag.session) × (tag.session ≤ last_session worker given + length run.links))
      ⊎ IsTagOfLink given (suc worker) runs tag

  -- `Holds` is true of each door before and after the work at it. The first door is that of the worker with this number
  abbrev pub EachDoor : {D : Type 0} → (ℕ → DoorRun L → D → D → Type 0) → ℕ → List (DoorRun L) → List D → List D → Type 0
  EachDoor Holds worker [] [] [] = Unit {0}
  EachDoor Holds worker (run ∷ runs) (old ∷ olds) (new ∷ news) = Holds worker run old new × EachDoor Holds (suc worker) runs olds news
  EachDoor Holds worker runs olds news = ⊥
