use Rattle.std.proofs.Common.{◌≡◌, ℕ, Bool, ◌||◌, All, List, ◌++◌, length, refl, sym, ap, subst, ◌∙◌, vec_len}
use Rattle.std.specs.List.{list_any}
use Rattle.play_types.specs.Media.{MediaNameView}
use Rattle.play_types.specs.declared.event.Event.{Event}
use Rattle.play_outside.specs.Sink.{Sends}
use Rattle.history_model.specs.text.History.{history_text}
use Rattle.play_journal.specs.Journal.{IsJournal, JournalView}
use Rattle.stage_core.specs.Stage.{StageView}
use Rattle.stage_lock.specs.Views.{SharedView}
use Rattle.play_ticker.specs.Frames.{setup_for}
use Rattle.server_run.specs.Doors.{is_door_fault}
use Rattle.server_run.specs.Run.{ends_so, is_cut, is_tick_fault}
use Rattle.server_run.specs.Devices.{DeviceStates}
use Rattle.server_run.specs.inner.Threads.{HasRoomBack, HasRoomFor, program_of_memory}
use Rattle.server_run.specs.inner.Workers.{MayWork, door_states}
use Rattle.server_run.specs.declared.connection_workers.ConnectionWorker.{ConnectionWorker}
use Rattle.server_run.proofs.HasBegun.{channels_are, given_is, limit_is, log_of, new_ticker, passes_many, passes_of_stage, setup_is, workers_many}
use Rattle.server_run.proofs.HasRun.{finish}
use Rattle.server_run.proofs.WorkerPasses.{all_passes, same_workers}
use Rattle.server_run.proofs.serving.run.Goals as goal

pub begin-threads-requires-clause-memory : goal.begin-threads-requires-clause-memory
begin-threads-requires-clause-memory g c κs within = subst (λ (n : ℕ). HasRoomFor n c.args.memory) (sym c.requires.doors) c.requires.memory.threads

pub run-tick_end-requires-clause-stage : goal.run-tick_end-requires-clause-stage
run-tick_end-requires-clause-stage g c κs within =
    let has = c.begin-threads.ensures.begun in
    let is = c.requires.memory in
    record {
      channels = channels_are (program_of_memory c.args.config.now c.args.media.now c.args.memory) c.args.memory c.args.devices c.begin-threads.result is has;
      limit = limit_is (program_of_memory c.args.config.now c.args.media.now c.args.memory) c.args.memory c.args.devices c.begin-threads.result is has;
    }

pub run-tick_end-requires-clause-ticker : goal.run-tick_end-requires-clause-ticker
run-tick_end-requires-clause-ticker g c κs within =
    new_ticker (program_of_memory c.args.config.now c.args.media.now c.args.memory) c.args.memory c.args.devices c.begin-threads.result c.requires.memory c.begin-threads.ensures.begun c.requires.outs

pub run-tick_end-requires-clause-connection_workers : goal.run-tick_end-requires-clause-connection_workers
run-tick_end-requires-clause-connection_workers g c κs within =
    let states = door_states g.D.Listener.state g.D.Line.Sink.state in
    subst (λ (s : SharedView). All (MayWork states s) c.begin-threads.result.0.others.connection_workers.items) (sym c.begin-threads.ensures.begun.stage) c.begin-threads.ensures.may_work

pub run-tick_end-requires-clause-log : goal.run-tick_end-requires-clause-log
run-tick_end-requires-clause-log g c κs within =
    log_of (program_of_memory c.args.config.now c.args.media.now c.args.memory) c.args.memory c.args.devices c.begin-threads.result c.requires.memory c.begin-threads.ensures.begun

pub close-stage-requires-clause-room : goal.close-stage-requires-clause-room
close-stage-requires-clause-room g c κs within =
    let has = c.begin-threads.ensures.begun in
    let new = c.run-tick_end.new.self in
    let count : vec_len new.others.connection_workers ≡ vec_len c.args.devices.doors =
    new.others.connection_workers.ok.0
    ∙ same_workers _ _ _ _ c.run-tick_end.result c.begin-threads.result.0 new c.run-tick_end.ensures
    ∙ workers_many (program_of_memory c.args.config.now c.args.media.now c.args.memory) c.args.memory c.args.devices c.begin-threads.result c.requires.memory has
    ∙ sym c.args.devices.doors.ok.0 in
    subst (λ (n : ℕ). HasRoomBack n c.begin-threads.result.1) (sym count) has.room

pub close-stage-requires-clause-passes : goal.close-stage-requires-clause-passes
close-stage-requires-clause-passes g c κs within =
    let has = c.begin-threads.ensures.begun in
    let is = c.requires.memory in
    all_passes _ _ _ _ c.run-tick_end.result c.begin-threads.result.0 c.run-tick_end.new.self c.run-tick_end.ensures c.args.config.now.connections
    (workers_many (program_of_memory c.args.config.now c.args.media.now c.args.memory) c.args.memory c.args.devices c.begin-threads.result is has ∙ sym c.args.devices.doors.ok.0 ∙ c.requires.doors)
    (passes_of_stage (program_of_memory c.args.config.now c.args.media.now c.args.memory) c.args.memory c.args.devices c.begin-threads.result is has c.args.config.now.connections c.requires.doors)
    (passes_many (program_of_memory c.args.config.now c.args.media.now c.args.memory) c.args.memory c.args.devices c.begin-threads.result is has)

pub returns : goal.returns
returns g c =
    let Worker = ConnectionWorker g.row.D.Denot in
    let words : DeviceStates g.row.C.Denot g.row.D.Denot g.row.O.Denot g.row.D-Line.Denot = record { clock = g.C.Clock.state; door = g.D.Listener.state; out = g.O.Sink.state } in
    let has = c.begin-threads.ensures.begun in
    let is = c.requires.memory in
    let old = c.begin-threads.result.0 in
    let new = c.run-tick_end.new.self in
    let shared = c.begin-threads.result.1 in
    let closed = c.close-stage.ensures in
    let stage = c.close-stage.result.stage in
    let program = program_of_memory c.args.config.now c.args.media.now c.args.memory in
    let begun : shared.stage.sizes.given ≡ program.given = given_is program c.args.memory c.args.devices c.begin-threads.result is has in
    let begins : stage.journal.events ≡ program.given ++ closed.left.history =
    ap (λ (s : StageView). s.journal.events) closed.left.whole ∙ ap (λ (given : List Event). given ++ closed.left.history) begun in
    let journal : IsJournal stage.journal = subst IsJournal c.journal.ensures c.held-held.ensures.range in
    let written = c.write_history-written.result in
    let history = g.O.Sink.state c.write_history-written.new.to in
    let text : Sends written (history_text shared.names stage.journal.events) (g.O.Sink.state c.args.devices.history) history =
    subst (λ (before : g.row.O.Denot). Sends written (history_text shared.names stage.journal.events) (g.O.Sink.state before) history) (closed.history ∙ has.history)
    (subst (λ (names : List MediaNameView). Sends written (history_text names stage.journal.events) (g.O.Sink.state c.close-stage.result.devices.history) history) closed.names
    (subst (λ (j : JournalView). Sends written (history_text c.close-stage.result.names j.events) (g.O.Sink.state c.close-stage.result.devices.history) history)
    c.journal-2.ensures c.write_history-written.ensures)) in
    finish words g.D.Line.Sink.state program _ (setup_for old.ticker.renderer c.args.media.now)
    c.run-tick_end.result c.args.devices _ old new has.devices_held
    (record { clock = closed.devices_held.clock; doors = closed.devices_held.doors; outs = closed.devices_held.outs; log = closed.devices_held.log })
    (passes_of_stage (program_of_memory c.args.config.now c.args.media.now c.args.memory) c.args.memory c.args.devices c.begin-threads.result is has (length c.args.devices.doors.items) c.args.devices.doors.ok.0)
    c.run-tick_end.ensures
    written c.end_of.result
    (record {
      on = is.on;
      config = refl;
      names = has.names ∙ is.names;
      channels = channels_are (program_of_memory c.args.config.now c.args.media.now c.args.memory) c.args.memory c.args.devices c.begin-threads.result is has;
      begun = begun;
      setup_is = setup_is program c.args.memory c.args.devices c.begin-threads.result is has;
    })
    (record {
      journal = stage.journal;
      came = closed.left.history;
      begins = begins;
      closes = closed.left.closes;
      is_journal = journal;
      limit = ap (λ (s : StageView). s.journal.limit) closed.left.whole ∙ limit_is (program_of_memory c.args.config.now c.args.media.now c.args.memory) c.args.memory c.args.devices c.begin-threads.result is has;
      text = text;
      end_is = c.end_of.ensures ∙ ap (λ (b : Bool). ends_so (is_tick_fault c.run-tick_end.result.0 || (b || (is_cut written || is_cut c.run-tick_end.result.1))))
          (c.door_failed-door_failed.ensures ∙ ap (list_any (λ (worker : Worker). is_door_fault worker.end)) c.as_slice.ensures.value);
    })
