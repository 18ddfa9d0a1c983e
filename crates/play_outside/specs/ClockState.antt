-- What contracts see of a clock.
use Rattle.std.specs.Prelude.{ℕ, Option, Bool, true, ◌+◌, option_map}
use Rattle.play_outside.specs.Faults.{one_more}

-- how many pulses were given, and whether the clock has answered Closed
pub record ClockTold : Type 0 where
  pub pulses : ℕ
  pub closed : Bool

-- what was given, if the clock exposes it, and how often it has failed
pub record ClockState : Type 0 where
  pub told : Option ClockTold
  pub faults : ℕ

-- what is exposed after one more pulse
abbrev pub one_pulse : ClockTold → ClockTold
one_pulse told = record told { pulses = told.pulses + 1 }

-- what is exposed after the clock answered Closed
abbrev pub clock_closed : ClockTold → ClockTold
clock_closed told = record told { closed = true }

-- the clock after it gave one more pulse
abbrev pub after_pulse : ClockState → ClockState
after_pulse state = record state { told = option_map one_pulse state.told }

-- the clock after it answered Closed
abbrev pub after_clock_closed : ClockState → ClockState
after_clock_closed state = record state { told = option_map clock_closed state.told }

-- the clock after it failed
abbrev pub after_clock_fault : ClockState → ClockState
after_clock_fault state = record state { faults = one_more state.faults }
