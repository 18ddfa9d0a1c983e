-- A clock that never fails.
use Rattle.std.specs.Prelude.{ℕ, ◌-◌}
use Rattle.play_outside.specs.declared.plain.clock.PlainClock.{PlainClock}

-- how many pulses it has left to give
abbrev pub pulses_left : PlainClock → ℕ
pulses_left clock = clock.pulses - clock.given
