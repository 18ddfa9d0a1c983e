-- The threads of a run: the ticker beside the connection workers and the log.
use Rattle.std.specs.Prelude.{◌≡◌, ℕ, ◌+◌, ◌≤◌, List, [], ◌∷◌, length, map, reverse, vec_capacity, vec_len}
use Rattle.std.specs.List.{AllZip, range_with_len}
use Rattle.play_types.specs.Config.{ConfigView}
use Rattle.play_types.specs.Media.{MediaNameView}
use Rattle.play_types.specs.declared.event.Event.{Event}
use Rattle.play_outside.specs.ClockState.{ClockState}
use Rattle.play_outside.specs.SinkState.{SinkState}
use Rattle.play_outside.specs.declared.devices.Devices.{Devices}
use Rattle.play_outside.specs.declared.sink.Sent.{Sent}
use Rattle.clip_format.specs.Table.{Entry, media_names}
use Rattle.history_model.specs.pictures.Media.{Setup}
use Rattle.history_model.specs.scripts.History.{channel_size}
use Rattle.band_render.specs.Rendered.{sizes}
use Rattle.history_log.specs.Log.{KeepsLog, Moment}
use Rattle.stage_lock.specs.Views.{PassView, SharedView, Sizes}
use Rattle.stage_lock.specs.Calls.{new_pass, new_passes}
use Rattle.stage_lock.specs.Closing.{IsLeft}
use Rattle.conn_worker.specs.declared.server.Server.{Server}
use Rattle.scene_pipe.specs.Calls.{AreNewEnds}
use Rattle.play_ticker.specs.Ends.{HasEnded}
use Rattle.play_ticker.specs.Frames.{AreLast, tick_positions}
use Rattle.play_ticker.specs.Outputs.{AreWritten}
use Rattle.play_ticker.specs.Starts.{MayTickAll}
use Rattle.play_ticker.specs.declared.ending.TickEnd.{TickEnd}
use Rattle.server_run.specs.Doors.{last_session}
use Rattle.server_run.specs.Run.{IsProgram, Program}
use Rattle.server_run.specs.inner.Workers.{DoorStates, HasWorkedAt, doors_of, passes_of}
use Rattle.server_run.specs.declared.worker_session.WorkerSession.{WorkerSession}
use Rattle.server_run.specs.declared.log_thread.LogThread.{LogThread}
use Rattle.server_run.specs.declared.run_memory.RunMemory.{RunMemory}
use Rattle.server_run.specs.declared.run_threads.RunThreads.{RunThreads}
use Rattle.server_run.specs.declared.shared_run.ClosedRun.{ClosedRun}
use Rattle.server_run.specs.declared.shared_run.SharedRun.{SharedRun}
use Rattle.server_run.specs.declared.ticker_thread.TickerThread.{TickerThread}

-- the fixed sizes of a stage for a run on this program. Its passes are the ticker's, one for each connection worker, and the log's
abbrev pub sizes_for : Program → Sizes
sizes_for program =
    record { limit = program.config.journal_limit; channels = length program.config.channels; passes = program.config.connections + 2; given = program.given }

-- for each of the workers 1 to `count` the number of its last session in these events
abbrev pub sessions_in : List Event → ℕ → List ℕ
sessions_in events count = map (λ worker. last_session worker events) (range_with_len 1 count)

-- the numbers of the last sessions that are counted with the sessions of workers
abbrev pub counts_of : List WorkerSession → List ℕ
counts_of sessions = map (λ session. session.served) sessions

-- the memory has new passes, sessions that are counted from the last ones of the given events on, and room for a run with this number of
-- connection workers
pub record HasRoomFor {D : Type 0} (count : ℕ) (memory : RunMemory D) : Type 0 where
  pub many : memory.stage.sizes.passes ≡ count + 2
  pub passes : memory.passes.items ≡ new_passes memory.stage
  pub sessions : counts_of memory.sessions.items ≡ sessions_in memory.stage.sizes.given count
  pub connection_workers : memory.connection_workers.items ≡ []
  pub room : count ≤ vec_capacity memory.connection_workers

-- the memory is for a run on this program, on which a run can be played. Its frames are those of the last tick before the run
pub record IsRunMemory {D : Type 0} (program : Program) (memory : RunMemory D) : Type 0 where
  pub on : IsProgram program
  pub names : memory.names ≡ media_names program.media
  pub frames : sizes memory.renderer ≡ map channel_size program.config.channels
  pub last : AreLast program.given program.media memory.renderer
  pub pipe : memory.pipe ≡ length program.config.channels
  pub sizes_are : memory.stage.sizes ≡ sizes_for program
  pub threads : HasRoomFor program.config.connections memory

-- what a run with this memory is played on, with this configuration and these clips
abbrev pub program_of_memory : {D : Type 0} → ConfigView → List Entry → RunMemory D → Program
program_of_memory config media memory = record { config = config; media = media; given = memory.stage.sizes.given }

-- a pass for a ticker, before its ticks
abbrev pub ticker_pass : SharedView → PassView
ticker_pass stage = new_pass stage 0

-- the passes of the connection workers, before their work
abbrev pub worker_passes : SharedView → ℕ → List PassView
worker_passes stage count = map (new_pass stage) (range_with_len 1 count)

-- the pass for the log, before it has read any event. Its number follows those of the connection workers
abbrev pub log_pass : SharedView → ℕ → PassView
log_pass stage count = new_pass stage (count + 1)

-- the functions that give the state of a clock and of an output
pub record TickerStates (C O : Type 0) : Type 0 where
  pub clock : C → ClockState
  pub out : O → SinkState

-- the functions that give the states of the clock and the outputs of a run
abbrev pub ticker_states : {C O : Type 0} → (C → ClockState) → (O → SinkState) → TickerStates C O
ticker_states clock out = record { clock = clock; out = out }

-- a ticker before its first tick, on a table of clips: its pass may make the ticks of the stage, its frames are those of the last tick before
-- the run, its pipe is new, and there are as many frames, channels of the pipe and outputs as the stage has channels
pub record IsNewTicker {C O : Type 0} (stage : SharedView) (clips : List Entry) (ticker : TickerThread C O) : Type 0 where
  pub ready : MayTickAll stage clips ticker.pass ticker.renderer (vec_len ticker.outs)
  pub pipe : AreNewEnds stage.sizes.channels ticker.ends.stage_end ticker.ends.write_end

-- a ticker took pulses, from the first of two moments to the second, and its ticks ended with `tick_end`
pub record HasTicked {C O : Type 0} (states : TickerStates C O) (setup : Setup) (stage : SharedView) (tick_end : TickEnd) (moments : TickerThread C O × TickerThread C O) : Type 0 where
  pub of : moments.1.pass.stage ≡ stage
  pub number : moments.1.pass.number ≡ 0
  pub made : moments.1.pass.made ≡ tick_positions moments.1.pass.seen
  pub outs : AreWritten states.out tick_end (record { setup = setup; given = stage.sizes.given; history = moments.1.pass.seen }) moments.0.outs.items moments.1.outs.items
  pub ended : HasEnded stage.sizes.given tick_end (record { pass = moments.0.pass; clock = states.clock moments.0.clock }) (record { pass = moments.1.pass; clock = states.clock moments.1.clock })

-- the pass of a log is of this stage
abbrev pub IsLogOf : {O : Type 0} → SharedView → LogThread O → Type 0
IsLogOf stage log = log.pass.stage ≡ stage

-- a log at one moment: its pass, and the state of its output
abbrev pub log_moment : {O : Type 0} → (O → SinkState) → LogThread O → Moment
log_moment state log = record { pass = log.pass; sink = state log.log }

-- a log was kept of the given events and of those that came, from the first of two moments to the second, with this result
pub record HasLogged {O : Type 0} (state : O → SinkState) (given : List Event) (names : List MediaNameView) (logged : Sent) (moments : LogThread O × LogThread O) : Type 0 where
  pub of : moments.1.pass.stage ≡ moments.0.pass.stage
  pub keeps : KeepsLog given names logged (log_moment state moments.0) (log_moment state moments.1)

-- the threads own the passes of a new stage with this number of connection workers
pub record HasNewPasses {C D O : Type 0} (stage : SharedView) (count : ℕ) (threads : RunThreads C D O) : Type 0 where
  pub ticker : threads.ticker.pass ≡ ticker_pass stage
  pub connection_workers : passes_of (reverse threads.others.connection_workers.items) ≡ worker_passes stage count
  pub log : threads.others.log.pass ≡ log_pass stage count

-- the threads own these devices, but for the output for the history
pub record HoldsDevices {C D O : Type 0} (threads : RunThreads C D O) (devices : Devices C D O) : Type 0 where
  pub clock : threads.ticker.clock ≡ devices.clock
  pub doors : doors_of (reverse threads.others.connection_workers.items) ≡ devices.doors.items
  pub outs : threads.ticker.outs.items ≡ devices.outs.items
  pub log : threads.others.log.log ≡ devices.log

-- the lists of passes and doors are empty, with room for those of a run with this number of connection workers
pub record HasRoomBack {D O : Type 0} (count : ℕ) (shared : SharedRun D O) : Type 0 where
  pub passes : shared.passes.items ≡ []
  pub passes_room : count + 2 ≤ vec_capacity shared.passes
  pub doors : shared.doors.items ≡ []
  pub doors_room : count ≤ vec_capacity shared.doors

-- the memory and the devices of a run were handed to its threads, and the rest to what they share
pub record HasBegun {C D O : Type 0} (memory : RunMemory D) (devices : Devices C D O) (begun : RunThreads C D O × SharedRun D O) : Type 0 where
  pub passes : HasNewPasses memory.stage (vec_len devices.doors) begun.0
  pub devices_held : HoldsDevices begun.0 devices
  pub renderer : begun.0.ticker.renderer ≡ memory.renderer
  pub ends : AreNewEnds memory.pipe begun.0.ticker.ends.stage_end begun.0.ticker.ends.write_end
  pub stage : begun.1.stage ≡ memory.stage
  pub names : begun.1.names ≡ memory.names
  pub history : begun.1.history ≡ devices.history
  pub room : HasRoomBack (vec_len devices.doors) begun.1

-- the threads ran concurrently: how the ticks and the log ended, and the threads before and after
pub record RanBeside {C D O L : Type 0} (ticker : TickerStates C O) (doors : DoorStates D L) (setup : Setup) (server : Server) (run : TickEnd × Sent × RunThreads C D O × RunThreads C D O) : Type 0 where
  pub ticked : HasTicked ticker setup server.stage.now run.0 (run.2.ticker, run.3.ticker)
  pub worked : AllZip (HasWorkedAt doors server) run.2.others.connection_workers.items run.3.others.connection_workers.items
  pub logged : HasLogged ticker.out server.stage.now.sizes.given server.media.now run.1 (run.2.others.log, run.3.others.log)

-- the passes that the threads own, in the order in which they come back
abbrev pub passes_back : {C D O : Type 0} → RunThreads C D O → List PassView
passes_back threads = threads.others.log.pass ∷ threads.ticker.pass ∷ passes_of (reverse threads.others.connection_workers.items)

-- the stage was closed with the passes of the threads, and the devices are together again
pub record HasClosed {C D O : Type 0} (shared : SharedRun D O) (threads : RunThreads C D O) (closed : ClosedRun C D O) : Type 0 where
  pub left : IsLeft shared.stage (passes_back threads) closed.stage
  pub names : closed.names ≡ shared.names
  pub devices_held : HoldsDevices threads closed.devices
  pub history : closed.devices.history ≡ shared.history
