-- What the pulses have made, before the stage is stopped.
use Rattle.std.specs.Prelude.{◌≡◌, ℕ, ◌≤◌, ◌⊎◌, Some, None, List, ◌++◌}
use Rattle.play_types.specs.History.{stop_at, ticks}
use Rattle.play_types.specs.declared.event.Event.{Event}
use Rattle.play_types.specs.declared.event.Event.TheVariants.{Stop}
use Rattle.play_types.specs.declared.event.TheConstants.{MAX_TICKS}
use Rattle.history_model.specs.scripts.History.{server}
use Rattle.stage_lock.specs.Own.{made_by}
use Rattle.stage_lock.specs.Views.{PassView}
use Rattle.stage_lock.specs.Calls.{Adds, Looks}
use Rattle.play_ticker.specs.Frames.{tick_positions}
use Rattle.play_ticker.specs.declared.ending.TickEnd.{TickEnd}
use Rattle.play_ticker.specs.declared.ending.TickEnd.TheVariants.{ClockClosed, Ended, TicksOver, ClockFault, OutFault}

-- the own events in what a pass has seen are those that it made
abbrev pub IsKnown : PassView → Type 0
IsKnown pass = made_by pass.number pass.seen ≡ pass.made

-- a pass has made only ticks, which with those among the given events are at most MAX_TICKS
pub record MadeTicks (given : List Event) (pass : PassView) : Type 0 where
  pub made : pass.made ≡ tick_positions pass.seen
  pub few : ticks (given ++ pass.seen) ≤ MAX_TICKS

-- what holds of a pass before it stops the stage, by the end
abbrev pub IsAtEnd : List Event → TickEnd → PassView → Type 0
IsAtEnd given ClockClosed pass = Unit {0}
IsAtEnd given (Ended at) pass = (stop_at (given ++ pass.seen) ≡ Some at) × IsKnown pass
IsAtEnd given TicksOver pass = MAX_TICKS ≤ ticks (given ++ pass.seen)
IsAtEnd given ClockFault pass = Unit {0}
IsAtEnd given (OutFault channel) pass = Unit {0}

-- a pass asked for the stop of tag 0.0: it made it, or found another
abbrev pub Stops : List Event → PassView → PassView → Type 0
Stops given old new = Adds old (Stop server) (λ history. stop_at (given ++ history) ≡ None) new
    ⊎ ((at : ℕ) × Looks old (λ history. stop_at (given ++ history) ≡ Some at) new)

-- the stop of a pass by the end
abbrev pub StopsAt : List Event → TickEnd → PassView → PassView → Type 0
StopsAt given ClockClosed old new = Stops given old new
StopsAt given (Ended at) old new = new ≡ old
StopsAt given TicksOver old new = Stops given old new
StopsAt given ClockFault old new = Stops given old new
StopsAt given (OutFault channel) old new = Stops given old new
