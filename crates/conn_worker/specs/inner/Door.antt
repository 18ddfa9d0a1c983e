-- One turn of the work at a door.
use Rattle.std.specs.Prelude.{◌≡◌, ℕ, ◌+◌, None, Result, Ok, Err, List}
use Rattle.play_types.specs.History.{stop_at}
use Rattle.play_types.specs.declared.event.Event.{Event}
use Rattle.play_outside.specs.SinkState.{SinkState}
use Rattle.play_outside.specs.ListenerState.{after_give_back}
use Rattle.stage_lock.specs.Views.{PassView}
use Rattle.conn_worker.specs.Explained.{IsExplained}
use Rattle.conn_worker.specs.Work.{AtDoor, EndsWork, FindsEnd, GoesOnAfter, LooksOn, Setting, StopsAfter, Takes, Turn, LinkRun, links_come, service_of}
use Rattle.conn_worker.specs.declared.work_end.WorkEnd.{WorkEnd}
use Rattle.conn_worker.specs.declared.work_end.WorkEnd.TheVariants.{Closed, Ended, DoorFault, SessionsOver}

-- a check of the stage found no stop, or one
abbrev pub LooksAtStage : List Event → Result (Unit {0}) WorkEnd → PassView → PassView → Type 0
LooksAtStage given (Ok done) before after = LooksOn before after
LooksAtStage given (Err Closed) before after = ⊥
LooksAtStage given (Err (Ended at)) before after = FindsEnd given at before after
LooksAtStage given (Err DoorFault) before after = ⊥
LooksAtStage given (Err SessionsOver) before after = ⊥

module _ {L : Type 0} where
  -- the pass after a link was served, by the result: the work goes on, or the history holds a stop
  abbrev pub PassesOn : List Event → Result (Unit {0}) WorkEnd → LinkRun L → PassView → Type 0
  PassesOn given (Ok done) link_run after = GoesOnAfter link_run.end link_run.pass after
  PassesOn given (Err Closed) link_run after = ⊥
  PassesOn given (Err (Ended at)) link_run after = StopsAfter given at link_run.end link_run.pass after
  PassesOn given (Err DoorFault) link_run after = ⊥
  PassesOn given (Err SessionsOver) link_run after = ⊥

  -- a link that had come was served as the session of this number, and given back
  pub record GivesBack (setting : Setting L) (number : ℕ) (came : SinkState) (result : Result (Unit {0}) WorkEnd) (moments : AtDoor L × AtDoor L) : Type 0 where
    pub link_run : LinkRun L
    pub came_is : link_run.came ≡ came
    pub explained : IsExplained (service_of setting number) link_run.end
        (record { pass = moments.0.pass; link = link_run.came }) (record { pass = link_run.pass; link = setting.tells link_run.line })
    pub door : moments.1.door ≡ after_give_back moments.0.door link_run.line
    pub pass : PassesOn setting.given result link_run moments.1.pass

  -- the door was asked once, after `served` links were served: the work goes on with the new count of links, or it ends
  abbrev pub TakesTurn : Setting L → ℕ → Result ℕ WorkEnd → AtDoor L → AtDoor L → Type 0
  TakesTurn setting served (Ok came) before after =
      (turn : Turn L) × (Takes setting (served + 1) turn before after × ((came ≡ served + links_come turn) × (stop_at after.pass.seen ≡ None)))
  TakesTurn setting served (Err end) before after = EndsWork setting (1 + served) end before after
