-- A clock in memory.
use Rattle.std.specs.Prelude.{ℕ}
use Rattle.play_outside.specs.plain.Clock as plain
use Rattle.play_outside.specs.declared.memory.clock.MemClock.{MemClock}

-- how many pulses it has left to give
abbrev pub pulses_left : MemClock → ℕ
pulses_left clock = plain.pulses_left clock.pulses
