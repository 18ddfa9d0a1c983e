-- The connection workers of a run.
use Rattle.std.specs.Prelude.{◌≡◌, ◌<◌, None, List, map}
use Rattle.play_types.specs.History.{stop_at}
use Rattle.play_outside.specs.ListenerState.{ListenerState}
use Rattle.play_outside.specs.SinkState.{SinkState}
use Rattle.play_outside.specs.declared.listener.TheConstants.{MOST_AWAY}
use Rattle.stage_lock.specs.Views.{PassView, SharedView}
use Rattle.conn_worker.specs.Server.{setting_in}
use Rattle.conn_worker.specs.Work.{HasWorkedFrom}
use Rattle.conn_worker.specs.declared.server.Server.{Server}
use Rattle.conn_worker.specs.declared.work_end.WorkEnd.{WorkEnd}
use Rattle.server_run.specs.Doors.{last_session, served_before}
use Rattle.server_run.specs.declared.connection_workers.ConnectionWorker.{ConnectionWorker}

-- the functions that give the state of a door and of a link
pub record DoorStates (D L : Type 0) : Type 0 where
  pub door : D → ListenerState L
  pub line : L → SinkState

-- the functions that give the states of the doors of a run and of their links
abbrev pub door_states : {D L : Type 0} → (D → ListenerState L) → (L → SinkState) → DoorStates D L
door_states door line = record { door = door; line = line }

-- the passes, the doors and the ends of connection workers
abbrev pub passes_of : {D : Type 0} → List (ConnectionWorker D) → List PassView
passes_of {D} connection_workers = map (λ (worker : ConnectionWorker D). worker.pass) connection_workers

abbrev pub doors_of : {D : Type 0} → List (ConnectionWorker D) → List D
doors_of {D} connection_workers = map (λ (worker : ConnectionWorker D). worker.door) connection_workers

abbrev pub ends_of : {D : Type 0} → List (ConnectionWorker D) → List WorkEnd
ends_of {D} connection_workers = map (λ (worker : ConnectionWorker D). worker.end) connection_workers

-- a pass of the stage that has seen no stop
pub record IsRunning (stage : SharedView) (pass : PassView) : Type 0 where
  pub of : pass.stage ≡ stage
  pub running : stop_at pass.seen ≡ None

-- one more link may be away from the door
abbrev pub MayCome : {D L : Type 0} → (D → ListenerState L) → D → Type 0
MayCome state door = (state door).away < MOST_AWAY

-- a connection worker may begin: its pass has seen no stop, one more link may be away from its door, and its sessions are counted from its
-- last one in the given events on
pub record MayWork {D L : Type 0} (states : DoorStates D L) (stage : SharedView) (worker : ConnectionWorker D) : Type 0 where
  pub pass : IsRunning stage worker.pass
  pub door : MayCome states.door worker.door
  pub served : worker.served ≡ last_session worker.pass.number stage.sizes.given

-- a connection worker served the links of its door
pub record HasWorkedAt {D L : Type 0} (states : DoorStates D L) (server : Server) (before after : ConnectionWorker D) : Type 0 where
  pub of : after.pass.stage ≡ before.pass.stage
  pub worked : HasWorkedFrom (setting_in server before.pass.number states.line) (served_before (setting_in server before.pass.number states.line)) after.end
      (record { pass = before.pass; door = states.door before.door }) (record { pass = after.pass; door = states.door after.door })
