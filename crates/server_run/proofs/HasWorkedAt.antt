-- What the connection workers did, in the order of their doors.
use Rattle.std.proofs.Common.{◌≡◌, List, [], ◌∷◌}
use Rattle.std.specs.List.{AllZip}
use Rattle.stage_lock.specs.Views.{PassView}
use Rattle.conn_worker.specs.Server.{setting_in}
use Rattle.conn_worker.specs.Work.{HasWorkedFrom}
use Rattle.conn_worker.specs.declared.server.Server.{Server}
use Rattle.conn_worker.specs.declared.work_end.WorkEnd.{WorkEnd}
use Rattle.server_run.specs.Doors.{served_before}
use Rattle.server_run.specs.inner.Workers.{DoorStates, HasWorkedAt, doors_of, ends_of, passes_of}
use Rattle.server_run.specs.declared.connection_workers.ConnectionWorker.{ConnectionWorker}

-- the work at a door, from the pass and the door before it to those after it, and its end
pub record WorkedAt {D L : Type 0} (states : DoorStates D L) (server : Server) (before : PassView) (old : D) (after : PassView) (end : WorkEnd) (new : D) : Type 0 where
  pub of : after.stage ≡ before.stage
  pub worked : HasWorkedFrom (setting_in server before.number states.line) (served_before (setting_in server before.number states.line)) end
      (record { pass = before; door = states.door old }) (record { pass = after; door = states.door new })

module _ {D L : Type 0} (states : DoorStates D L) (server : Server) where
  -- this holds at each door: of a pass and a door before, and of the pass, the end and the door after
  abbrev pub EachPlace : List PassView → List D → List PassView → List WorkEnd → List D → Type 0
  EachPlace [] [] [] [] [] = Unit {0}
  EachPlace (before ∷ befores) (old ∷ olds) (after ∷ afters) (end ∷ ended) (new ∷ news) =
      WorkedAt states server before old after end new × EachPlace befores olds afters ended news
  EachPlace befores olds afters ended news = ⊥

  -- what each worker did was done at its door
  pub each_place : (olds news : List (ConnectionWorker D)) → AllZip (HasWorkedAt states server) olds news
      → EachPlace (passes_of olds) (doors_of olds) (passes_of news) (ends_of news) (doors_of news)
  each_place [] [] all = tt
  each_place [] (new ∷ news) all = absurd all
  each_place (old ∷ olds) [] all = absurd all
  each_place (old ∷ olds) (new ∷ news) all = (record { of = all.0.of; worked = all.0.worked }, each_place olds news all.1)
