-- The states of new devices: no content is known, and no call was made.
use Rattle.std.specs.Prelude.{ℕ, None}
use Rattle.play_outside.specs.SinkState.{SinkState}
use Rattle.play_outside.specs.ListenerState.{ListenerState}
use Rattle.play_outside.specs.ClockState.{ClockState}

-- a new sink or link with mark `mark`
abbrev pub quiet_sink : ℕ → SinkState
quiet_sink mark = record { taken = None; faults = 0; mark = mark; at_fault = None; reading = None; idle = 0 }

-- a new listener with mark `mark`
abbrev pub quiet_door : {L : Type 0} → ℕ → ListenerState L
quiet_door mark = record { told = None; away = 0; idle = 0; faults = 0; mark = mark }

-- a new clock
abbrev pub quiet_clock : ClockState
quiet_clock = record { told = None; faults = 0 }
