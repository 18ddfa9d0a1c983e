-- A history that was read is one that a run can go on from.
use Rattle.std.proofs.Common.{◌≡◌, ℕ, Bool, false, List, [], ◌∷◌, length, sym, ap, subst}
use Rattle.std.specs.Prelude.{All, Result, Ok}
use Rattle.std.proofs.lemmas.List.Elements.{All-head, All-tail}
use Rattle.play_types.specs.declared.event.Event.{Event}
use Rattle.play_types.specs.declared.event.Event.TheVariants.{Do, Batch, Tick, Stop}
use Rattle.clip_format.specs.Table.{Entry, media_names}
use Rattle.history_model.specs.scripts.History.{Playout}
use Rattle.history_model.proofs.Aiming.{command_is_aimed}
use Rattle.history_replay.specs.Replay.{IsWritten}
use Rattle.play_recorder.specs.Recording.{AreServedEvents, IsServedEvent}
use Rattle.server_setup.specs.declared.setup.ServerSetup.{ServerSetup}
use Rattle.script_player.specs.Playouts.{playout_of}
use Rattle.play_types.specs.Config.{ConfigView}
use Rattle.play_outside.specs.SinkState.{SinkState}
use Rattle.play_outside.specs.SourceState.{SourceState}
use Rattle.play_outside.specs.declared.devices.Devices.{Devices}
use Rattle.stage_core.specs.Stage.{StageView}
use Rattle.server_run.specs.Beginning.{program_from}
use Rattle.server_run.specs.Devices.{DeviceStates}
use Rattle.server_run.specs.Run.{Serves}
use Rattle.server_run.specs.declared.served.ServeEnd.{ServeEnd}
use Rattle.history_reader.specs.Reading.{IsReadFrom, ReadEnds}
use Rattle.history_reader.specs.declared.fault.ReadHistoryFault.{ReadHistoryFault}
use Rattle.history_reader.specs.declared.reading.ReadHistory.{ReadHistory}
use Rattle.play_server.specs.inner.Resuming.{CanGoOn}

module _ (playout : Playout) where
  -- the commands of an event that a script can ask for are of configured channels
  served_event : (event : Event) → IsWritten playout event → IsServedEvent (length playout.config.channels) event
  served_event (Do tag cmd) written = command_is_aimed playout.config playout.names written.1.words cmd written.1.ask
  served_event (Batch tag cmds) written = λ at other within.
      let asked = (written.2 at other within).asked in
      command_is_aimed playout.config playout.names asked.words _ asked.ask
  served_event Tick written = tt
  served_event (Stop tag) written = tt

  -- and so are those of all events
  served_events : (events : List Event) → All (IsWritten playout) events → AreServedEvents (length playout.config.channels) events
  served_events [] written = tt
  served_events (event ∷ events) written =
      (served_event event (All-head (IsWritten playout) event events written), served_events events (All-tail (IsWritten playout) event events written))

-- a script on a setup is one on its configuration and its clips, if its names are those of its clips
playout_from : (setup : ServerSetup) (digests : Bool) → setup.names ≡ media_names setup.media
    → playout_of setup digests ≡ record { config = setup.config; names = media_names setup.media; clips = (playout_of setup digests).clips; digests = digests }
playout_from setup digests names =
    ap (λ n. record { config = setup.config; names = n; clips = (playout_of setup digests).clips; digests = digests }) names

-- a run can go on from a history that was read
pub can_go_on : (setup : ServerSetup) (text : List ℕ) (history : ReadHistory) → setup.names ≡ media_names setup.media → IsReadFrom setup text history → CanGoOn history
can_go_on setup text history names from =
    subst (λ (s : ServerSetup). CanGoOn (record history { setup = s })) (sym from.given_back) (record {
      stage = record {
        limit = from.limit;
        channels = from.channels;
        written = λ digests. subst (λ (p : Playout). All (IsWritten p) history.stage.journal.events) (playout_from setup digests names) (from.written digests);
        running = from.running;
      };
      served = served_events (playout_of setup false) history.stage.journal.events (from.written false);
    })

-- the history of a text that was read to its end
pub read_whole : (setup : ServerSetup) (result : Result ReadHistory ReadHistoryFault) (history : ReadHistory) (text : List ℕ) (before after : SourceState)
    → result ≡ Ok history → ReadEnds setup result text before after → IsReadFrom setup text history
read_whole setup result history text before after is ends =
    (subst (λ (r : Result ReadHistory ReadHistoryFault). ReadEnds setup r text before after) is ends).1

-- the run that served from a beginning goes on from the events of its stage
pub serves_from : {C D O L : Type 0} (device : DeviceStates C D O L) (tells : L → SinkState) (config : ConfigView) (media : List Entry) (begun stage : StageView)
    (end : ServeEnd) (devices : Devices C D O × Devices C D O) → begun ≡ stage → Serves device tells (program_from config media begun) end devices
    → Serves device tells (program_from config media stage) end devices
serves_from device tells config media begun stage end devices same =
    subst (λ (s : StageView). Serves device tells (program_from config media s) end devices) same
