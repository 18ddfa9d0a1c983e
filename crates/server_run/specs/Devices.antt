-- The states of the devices of a run.
use Rattle.play_outside.specs.ClockState.{ClockState}
use Rattle.play_outside.specs.ListenerState.{ListenerState}
use Rattle.play_outside.specs.SinkState.{SinkState}

-- the functions that give the state of a clock, a door and an output
pub record DeviceStates (C D O L : Type 0) : Type 0 where
  pub clock : C → ClockState
  pub door : D → ListenerState L
  pub out : O → SinkState

-- the functions that give the states of the clock, the doors and the outputs of a run
abbrev pub device_states : {C D O L : Type 0} → (C → ClockState) → (D → ListenerState L) → (O → SinkState) → DeviceStates C D O L
device_states clock door out = record { clock = clock; door = door; out = out }
