-- New devices, stated so that there is at most one proof.
use Rattle.std.specs.Prelude.{◌≡◌, false, IfSome, All, length}
use Rattle.std.proofs.Props.{props}
use Rattle.play_outside.specs.ListenerState.{ListenerState}
use Rattle.play_outside.specs.SinkState.{SinkState}
use Rattle.play_outside.specs.ClockState.{ClockState}
use Rattle.play_outside.specs.Fresh.{IsNewSink}
use Rattle.play_outside.specs.declared.devices.Devices.{Devices}
use Rattle.server_run.specs.Devices.{DeviceStates}
use Rattle.play_server.specs.Site.{IsNewClock, AreNumbered}

-- a door was given no link back, has not answered Closed, has no link out, and has not failed
abbrev pub IsUnusedDoor : {L : Type 0} → ListenerState L → Type 0
IsUnusedDoor state =
    IfSome state.told (λ told. (length told.returned ≡ 0) × (told.closed ≡ false)) × (state.away ≡ 0) × (state.faults ≡ 0)

-- the devices are fresh and without faults, and marked by their places
pub record AreUnused {C D O L : Type 0} (words : DeviceStates C D O L) (devices : Devices C D O) : Type 0 where
  pub clock : IsNewClock (words.clock devices.clock)
  pub doors : All (λ door. IsUnusedDoor (words.door door)) devices.doors.items
  pub door_marks : AreNumbered (λ door. (words.door door).mark) devices.doors.items
  pub outs : All (λ out. IsNewSink (words.out out)) devices.outs.items
  pub out_marks : AreNumbered (λ out. (words.out out).mark) devices.outs.items
  pub history : IsNewSink (words.out devices.history)
  pub history_mark : (words.out devices.history).mark ≡ 0
  pub log : IsNewSink (words.out devices.log)
  pub log_mark : (words.out devices.log).mark ≡ 0

clock-prop : (state : ClockState) → IsProp (IsNewClock state)
clock-prop state = hlevel props

sink-prop : (state : SinkState) → IsProp (IsNewSink state)
sink-prop state = hlevel props

door-prop : {L : Type 0} (state : ListenerState L) → IsProp (IsUnusedDoor state)
door-prop state = hlevel props

-- that devices are unused has at most one proof
pub unused-prop : {C D O L : Type 0} (words : DeviceStates C D O L) (devices : Devices C D O) → IsProp (AreUnused words devices)
unused-prop words devices = hlevel (props, clock-prop, sink-prop, door-prop)
