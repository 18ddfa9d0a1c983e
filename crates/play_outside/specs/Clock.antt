-- What a call of a clock does.
use Rattle.std.specs.Prelude.{◌≡◌, ℕ, ◌+◌}
use Rattle.play_outside.specs.ClockState.{ClockState, after_pulse, after_clock_closed, after_clock_fault}
use Rattle.play_outside.specs.declared.clock.Beat.{Beat}
use Rattle.play_outside.specs.declared.clock.Beat.TheVariants.{Pulse, Closed, Failed}

-- the clock gave a pulse, is closed, or failed and gave none
abbrev pub Beats : Beat → ClockState → ClockState → Type 0
Beats Pulse before after = after ≡ after_pulse before
Beats Closed before after = after ≡ after_clock_closed before
Beats Failed before after = after ≡ after_clock_fault before

-- a pulse leaves one less, Closed is given if none was left, and Failed leaves as many
abbrev pub LeavesPulses : Beat → ℕ → ℕ → Type 0
LeavesPulses Pulse before after = before ≡ after + 1
LeavesPulses Closed before after = (before ≡ 0) × (after ≡ 0)
LeavesPulses Failed before after = after ≡ before
