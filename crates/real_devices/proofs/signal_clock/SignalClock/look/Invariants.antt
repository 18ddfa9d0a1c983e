use Rattle.std.proofs.Common.{◌≡◌}
use Rattle.real_devices.specs.State.{signal_clock_state}
use Rattle.real_devices.proofs.signal_clock.SignalClock.look.Given as goal

-- looking at the signals does not change the state of the clock
abbrev pub invariant-loop : goal.invariant-loop
invariant-loop g l = signal_clock_state l.self ≡ signal_clock_state l.initial.self
