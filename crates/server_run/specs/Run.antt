-- A run: one history, from which all replies, all frames, the written text and the log follow. It goes on from given events, if there are
-- any.
use Rattle.std.specs.Prelude.{◌≡◌, ◌⊎◌, ℕ, ◌≤◌, ◌||◌, Bool, true, false, Some, None, List, [], ◌∷◌, ◌++◌, All, length, map}
use Rattle.std.specs.List.{list_any}
use Rattle.play_types.specs.Config.{ConfigView, IsConfig}
use Rattle.play_types.specs.History.{IsHistory, held, stop_at, ticks}
use Rattle.play_types.specs.Media.{IsMediaName}
use Rattle.play_types.specs.declared.event.Event.{Event}
use Rattle.play_types.specs.declared.event.Event.TheVariants.{Do, Batch, Tick, Stop}
use Rattle.play_types.specs.declared.event.Tag.{Tag}
use Rattle.play_types.specs.declared.event.TheConstants.{MAX_TICKS}
use Rattle.play_outside.specs.SinkState.{SinkState}
use Rattle.play_outside.specs.Sink.{Sends}
use Rattle.play_outside.specs.declared.devices.Devices.{Devices}
use Rattle.play_outside.specs.declared.sink.Sent.{Sent}
use Rattle.play_outside.specs.declared.sink.Sent.TheVariants as sent
use Rattle.clip_format.specs.Table.{Entry, media_names}
use Rattle.history_model.specs.pictures.Media.{Setup}
use Rattle.play_scene.specs.Picture.{clips_of}
use Rattle.history_model.specs.scripts.History.{Playout, channel_size, server}
use Rattle.history_model.specs.text.History.{history_text}
use Rattle.history_replay.specs.Replay.{IsTextName, IsWritten}
use Rattle.conn_worker.specs.Work.{Setting}
use Rattle.play_ticker.specs.Ends.{Meets, clock_at_end}
use Rattle.play_ticker.specs.Outputs.{AreWritten}
use Rattle.play_ticker.specs.declared.ending.TickEnd.{TickEnd}
use Rattle.play_ticker.specs.declared.ending.TickEnd.TheVariants.{ClockClosed, Ended, TicksOver, ClockFault, OutFault}
use Rattle.server_run.specs.Log.{IsLogged}
use Rattle.server_run.specs.Devices.{DeviceStates}
use Rattle.server_run.specs.Doors.{DoorRun, EachDoor, HasServed, IsTagOfLink, is_door_fault}
use Rattle.server_run.specs.declared.served.ServeEnd.{ServeEnd}
use Rattle.server_run.specs.declared.served.ServeEnd.TheVariants as serve

-- what a run is played on: the configuration, the table of the clips, and the events that it begins with
pub record Program : Type 0 where
  pub config : ConfigView
  pub media : List Entry
  pub given : List Event

-- a script on the configuration and the clips of a run, with its frames in hexadecimal or as digests
abbrev pub playout_of : Program → Bool → Playout
playout_of program digests =
    record { config = program.config; names = media_names program.media; clips = clips_of program.media; digests = digests }

-- a run can be played on it: the configuration is in its ranges, each clip name is in its ranges and is text, and the given events are
-- such as a script can ask for, and hold no stop and no more ticks than a history may have
pub record IsProgram (program : Program) : Type 0 where
  pub config : IsConfig program.config
  pub names : All IsMediaName (media_names program.media)
  pub texts : All IsTextName (media_names program.media)
  pub written : (digests : Bool) → All (IsWritten (playout_of program digests)) program.given
  pub running : stop_at program.given ≡ None
  pub few : ticks program.given ≤ MAX_TICKS

-- the formats of the channels, and the clips
abbrev pub setup_of : Program → Setup
setup_of program = record { channels = map channel_size program.config.channels; clips = clips_of program.media }

-- what the links of the worker with this number are served with
abbrev pub setting_of : {L : Type 0} → Program → (L → SinkState) → ℕ → Setting L
setting_of program tells worker =
    record { config = program.config; names = media_names program.media; worker = worker; tells = tells; given = program.given }

-- an event is a tick, the server's own stop, or of a link that a door was given back in a run after the given events
abbrev pub IsMadeBy : {L : Type 0} → List Event → List (DoorRun L) → Event → Type 0
IsMadeBy given runs (Do tag cmd) = IsTagOfLink given 1 runs tag
IsMadeBy given runs (Batch tag cmds) = IsTagOfLink given 1 runs tag
IsMadeBy given runs Tick = Unit {0}
IsMadeBy given runs (Stop tag) = (tag ≡ server) ⊎ IsTagOfLink given 1 runs tag

-- a history that ends with a stop
pub record EndsWithStop (history : List Event) : Type 0 where
  pub events : List Event
  pub tag : Tag
  pub whole : history ≡ events ++ Stop tag ∷ []

-- whether the ticks ended because the clock or an output failed
abbrev pub is_tick_fault : TickEnd → Bool
is_tick_fault ClockClosed = false
is_tick_fault (Ended at) = false
is_tick_fault TicksOver = false
is_tick_fault ClockFault = true
is_tick_fault (OutFault channel) = true

-- whether the text of the history, or the log, was not wholly written
abbrev pub is_cut : Sent → Bool
is_cut sent.All = false
is_cut sent.Failed = true

-- what holds of the history of the run, by the end that the side that makes ticks has met
abbrev pub TicksEndBy : List Event → TickEnd → Type 0
TicksEndBy history ClockClosed = Unit {0}
TicksEndBy history (Ended at) = stop_at history ≡ Some at
TicksEndBy history TicksOver = ticks history ≡ MAX_TICKS
TicksEndBy history ClockFault = Unit {0}
TicksEndBy history (OutFault channel) = Unit {0}

-- whether the ticks ended because a stop was found
abbrev pub is_found : TickEnd → Bool
is_found ClockClosed = false
is_found (Ended at) = true
is_found TicksOver = false
is_found ClockFault = false
is_found (OutFault channel) = false

-- who made the stop: a connection, or the server itself; then no tick found a stop, or a door failed
abbrev pub IsStoppedBy : {L : Type 0} → TickEnd → List (DoorRun L) → Tag → Type 0
IsStoppedBy {L} ticker runs tag =
    (tag ≡ server → (is_found ticker ≡ false) ⊎ (list_any (λ (run : DoorRun L). is_door_fault run.end) runs ≡ true))

-- whether a device failed
abbrev pub has_device_fault : {L : Type 0} → TickEnd → List (DoorRun L) → Sent → Sent → Bool
has_device_fault {L} ticker runs written logged =
    is_tick_fault ticker || (list_any (λ (run : DoorRun L). is_door_fault run.end) runs || (is_cut written || is_cut logged))

-- how a run ends: with DeviceFault if a device failed, and with Ended if none did
abbrev pub ends_so : Bool → ServeEnd
ends_so true = serve.DeviceFault
ends_so false = serve.Ended

module _ {C D O L : Type 0} where
  -- a run, from the devices that it was given to those that it gives back
  pub record HasRun (words : DeviceStates C D O L) (tells : L → SinkState) (program : Program) (end : ServeEnd) (devices : Devices C D O × Devices C D O) : Type 0 where
    -- the history, the events of it that came in the run, how the ticks ended and what the side that makes them has met, the work at each
    -- door, and whether the text and the log were written
    pub history : List Event
    pub came : List Event
    pub ticker : TickEnd
    pub met : TickEnd
    pub runs : List (DoorRun L)
    pub written : Sent
    pub logged : Sent
    -- a run can be played on its configuration and clips, and goes on from the events that it begins with
    pub on : IsProgram program
    -- the history has these events, and then those that came
    pub begins : history ≡ program.given ++ came
    -- no batch of the history is empty, and it has one stop, as its last event; the journal may hold its commands
    pub whole : IsHistory history
    pub within : held history ≤ program.config.journal_limit
    pub stopped : EndsWithStop came
    pub stopped_by : IsStoppedBy met runs stopped.tag
    -- each event that came is a tick, the server's own stop, or of a link that a door was given back
    pub made : All (IsMadeBy program.given runs) came
    -- each link that a door was given back is explained by the events that came
    pub doors : EachDoor (λ worker run before after. HasServed (setting_of program tells worker) came run (words.door before) (words.door after))
        1 runs devices.0.doors.items devices.1.doors.items
    -- each output took the frames of its channel at all ticks that came, or up to the tick at which one of them failed
    pub outs : AreWritten words.out ticker (record { setup = setup_of program; given = program.given; history = came }) devices.0.outs.items devices.1.outs.items
    -- the ticks ended with what was met, unless an output failed
    pub meets : Meets (length program.config.channels) ticker met
    -- a pulse was taken for each tick that came, and one more if a tick was refused
    pub clock : words.clock devices.1.clock ≡ clock_at_end met (ticks came) (words.clock devices.0.clock)
    pub pulses : TicksEndBy history met
    -- the text of the history was written, or a prefix of it
    pub text : Sends written (history_text (media_names program.media) history) (words.out devices.0.history) (words.out devices.1.history)
    -- the log has the whole history, or a prefix of it
    pub log : IsLogged logged (media_names program.media) history (words.out devices.0.log) (words.out devices.1.log)
    pub ending : end ≡ ends_so (has_device_fault ticker runs written logged)

  -- what serving did: there was a run; or memory ran out, and the devices are unchanged
  abbrev pub Serves : DeviceStates C D O L → (L → SinkState) → Program → ServeEnd → Devices C D O × Devices C D O → Type 0
  Serves words tells program serve.Ended devices = HasRun words tells program serve.Ended devices
  Serves words tells program serve.DeviceFault devices = HasRun words tells program serve.DeviceFault devices
  Serves words tells program serve.OutOfMemory devices = devices.1 ≡ devices.0
