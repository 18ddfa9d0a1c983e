-- How the ticks end: the pulses that were taken, the turns at the stage, and who stopped it.
use Rattle.std.specs.Prelude.{◌≡◌, ℕ, ◌+◌, ◌⊎◌, true, Some, List, [], ◌∷◌, ◌++◌, take, option_map}
use Rattle.play_types.specs.History.{stop_at, ticks}
use Rattle.play_types.specs.Scene.{IsConfigured}
use Rattle.play_types.specs.declared.event.Event.{Event}
use Rattle.play_types.specs.declared.event.Event.TheVariants.{Stop}
use Rattle.play_types.specs.declared.event.TheConstants.{MAX_TICKS}
use Rattle.play_outside.specs.ClockState.{ClockState, ClockTold, after_clock_closed, after_clock_fault}
use Rattle.history_model.specs.scripts.History.{server}
use Rattle.stage_core.specs.declared.fault.TickFault.{TickFault}
use Rattle.stage_core.specs.declared.fault.TickFault.TheVariants as fault
use Rattle.stage_lock.specs.Views.{PassView}
use Rattle.play_ticker.specs.declared.ending.TickEnd.{TickEnd}
use Rattle.play_ticker.specs.declared.ending.TickEnd.TheVariants.{ClockClosed, Ended, TicksOver, ClockFault, OutFault}

-- the end that the fault of a tick gives
abbrev pub end_of : TickFault → TickEnd
end_of (fault.Ended at) = Ended at
end_of fault.TicksOver = TicksOver

-- the pulses that were taken if this number of ticks was made: one more if a tick was refused
abbrev pub pulses_taken : TickEnd → ℕ → ℕ
pulses_taken ClockClosed made = made
pulses_taken (Ended at) made = made + 1
pulses_taken TicksOver made = made + 1
pulses_taken ClockFault made = made
pulses_taken (OutFault channel) made = made

-- the record after `count` more pulses
abbrev pub more_pulses : ℕ → ClockTold → ClockTold
more_pulses count told = record told { pulses = told.pulses + count }

-- the clock after it gave `count` more pulses
abbrev pub after_pulses : ℕ → ClockState → ClockState
after_pulses count state = record state { told = option_map (more_pulses count) state.told }

-- the clock after its last answer, if that was no pulse
abbrev pub after_end : TickEnd → ClockState → ClockState
after_end ClockClosed state = after_clock_closed state
after_end (Ended at) state = state
after_end TicksOver state = state
after_end ClockFault state = after_clock_fault state
after_end (OutFault channel) state = state

-- the clock at an end, if this number of ticks was made
abbrev pub clock_at_end : TickEnd → ℕ → ClockState → ClockState
clock_at_end end made state = after_end end (after_pulses (pulses_taken end made) state)

-- how often the stage was asked for a stop
abbrev pub stops_asked : TickEnd → ℕ
stops_asked ClockClosed = 1
stops_asked (Ended at) = 0
stops_asked TicksOver = 1
stops_asked ClockFault = 1
stops_asked (OutFault channel) = 1

-- how often a pass won the turn of the stage: once for each pulse, and once for the stop
abbrev pub turns_won : TickEnd → ℕ → ℕ
turns_won end made = pulses_taken end made + stops_asked end

-- a pass made the stop of tag 0.0, at this position, as the last of the given events and those that it has seen
pub record MakesStop (given : List Event) (at : ℕ) (pass : PassView) : Type 0 where
  pub ends : pass.ends ≡ true
  pub last : given ++ pass.seen ≡ take at (given ++ pass.seen) ++ Stop server ∷ []

-- among the given events and those that a pass has seen is a stop, at this position: it made that of tag 0.0, or it found one
pub record StopsStage (given : List Event) (old new : PassView) : Type 0 where
  pub at : ℕ
  pub stopped : stop_at (given ++ new.seen) ≡ Some at
  pub by : MakesStop given at new ⊎ (new.ends ≡ old.ends)

-- what a pass has seen after the given events, and whether it made a stop, by the end that was met
abbrev pub EndsPass : List Event → TickEnd → PassView → PassView → Type 0
EndsPass given ClockClosed old new = StopsStage given old new
EndsPass given (Ended at) old new = (stop_at (given ++ new.seen) ≡ Some at) × (new.ends ≡ old.ends)
EndsPass given TicksOver old new = StopsStage given old new × (ticks (given ++ new.seen) ≡ MAX_TICKS)
EndsPass given ClockFault old new = StopsStage given old new
EndsPass given (OutFault channel) old new = StopsStage given old new

-- what the side that makes ticks has met, by how the ticks ended: exactly that, unless the output of a channel failed. Then it
-- has met the report of that, or another end before it
abbrev pub Meets : ℕ → TickEnd → TickEnd → Type 0
Meets channels ClockClosed met = met ≡ ClockClosed
Meets channels (Ended at) met = met ≡ Ended at
Meets channels TicksOver met = met ≡ TicksOver
Meets channels ClockFault met = met ≡ ClockFault
Meets channels (OutFault channel) met = IsConfigured channels channel

-- the pass and the clock of ticks
pub record Ticking : Type 0 where
  pub pass : PassView
  pub clock : ClockState

-- how the ticks after the given events ended: what the side that makes them has met, and by it the pulses that were taken, the turns at
-- the stage, and who stopped it
pub record HasEnded (given : List Event) (end : TickEnd) (old new : Ticking) : Type 0 where
  pub met : TickEnd
  pub meets : Meets new.pass.stage.sizes.channels end met
  pub clock : new.clock ≡ clock_at_end met (ticks new.pass.seen) old.clock
  pub turns : new.pass.turns ≡ old.pass.turns + turns_won met (ticks new.pass.seen)
  pub pass : EndsPass given met old.pass new.pass
