-- A run that goes on from a history.
use Rattle.std.specs.Prelude.{◌⊎◌, Result, Ok, Err, length}
use Rattle.play_outside.specs.SinkState.{SinkState}
use Rattle.server_setup.specs.declared.fault.RunFault.{RunFault}
use Rattle.server_setup.specs.declared.fault.RunFault.TheVariants.{Device, OutOfMemory}
use Rattle.history_reader.specs.declared.reading.ReadHistory.{ReadHistory}
use Rattle.play_recorder.specs.Recording.{AreServedEvents}
use Rattle.server_run.specs.Beginning.{MayGoOn}
use Rattle.server_run.specs.Devices.{DeviceStates}
use Rattle.server_run.specs.declared.served.ServeEnd.{ServeEnd}
use Rattle.server_run.specs.declared.served.ServeEnd.TheVariants as serve
use Rattle.play_server.specs.Program.{OpensNothing, Resumption, RunsOpened}
use Rattle.play_server.specs.SiteState.{SiteState}
use Rattle.play_server.specs.declared.site.FinishStep.{FinishStep}
use Rattle.play_server.specs.declared.site.FinishStep.TheVariants as finish

-- a run on the setup of a history that was read can begin with its stage
pub record CanGoOn (history : ReadHistory) : Type 0 where
  pub stage : MayGoOn history.setup.config history.setup.media history.stage
  pub served : AreServedEvents (length history.setup.config.channels) history.stage.journal.events

-- the result of a run, by how it ended and by whether the history got its name
abbrev pub result_of : ServeEnd → FinishStep → Result (Unit {0}) RunFault
result_of serve.Ended finish.Done = Ok tt
result_of serve.Ended finish.Failed = Err Device
result_of serve.DeviceFault step = Err Device
result_of serve.OutOfMemory step = Err OutOfMemory

module _ {C D O L : Type 0} where
  -- what came of the request for a run that goes on from a history, on a setup
  abbrev pub Resumes : DeviceStates C D O L → (L → SinkState) → Resumption → Result (Unit {0}) RunFault → SiteState C D O × SiteState C D O → Type 0
  Resumes device tells asked result moments = RunsOpened device tells asked result moments ⊎ OpensNothing result moments.0 moments.1
