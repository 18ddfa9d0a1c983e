-- The side that makes ticks.
use Rattle.std.specs.Prelude.{◌≡◌, ℕ, ◌+◌, ◌<◌, ◌≤◌, false, Some, None, Result, Ok, Err, List, [], ◌∷◌, ◌++◌, length}
use Rattle.std.specs.List.{list_any}
use mathlib.Core.List.{IsPrefix}
use Rattle.play_types.specs.History.{stop_at, ticks}
use Rattle.play_types.specs.declared.drawn.Drawn.{Drawn}
use Rattle.play_types.specs.declared.event.Event.{Event}
use Rattle.play_types.specs.declared.event.Event.TheVariants.{Tick}
use Rattle.play_types.specs.declared.event.TheConstants.{MAX_TICKS}
use Rattle.play_outside.specs.ClockState.{ClockState, after_clock_closed, after_clock_fault, after_pulse}
use Rattle.stage_lock.specs.Views.{PassView, SharedView}
use Rattle.stage_lock.specs.Calls.{IsFound, Looks, added}
use Rattle.scene_pipe.specs.declared.item.Room.TheVariants.{Free, Broken}
use Rattle.scene_pipe.specs.declared.item.Taken.TheVariants.{Done}
use Rattle.scene_pipe.specs.declared.item.Returned.{Returned}
use Rattle.scene_pipe.specs.declared.pipe.TheConstants.{SETS}
use Rattle.scene_pipe.specs.Calls.{GivesRoom}
use Rattle.scene_pipe.specs.Counts.{EndsWithNews, free_count, is_news}
use Rattle.scene_pipe.specs.Views.{StageView}
use Rattle.play_ticker.specs.Ends.{EndsPass, clock_at_end, pulses_taken, turns_won}
use Rattle.play_ticker.specs.Frames.{tick_positions}
use Rattle.play_ticker.specs.Starts.{MayTick}
use Rattle.play_ticker.specs.inner.Items.{staged_item, staged_of}
use Rattle.play_ticker.specs.inner.Loop.{IsAtEnd, IsKnown, MadeTicks}
use Rattle.play_ticker.specs.declared.ending.TickEnd.{TickEnd}
use Rattle.play_ticker.specs.declared.ending.TickEnd.TheVariants.{ClockClosed, Ended, TicksOver, ClockFault, OutFault}

-- the side that makes ticks may begin: its pass may make the ticks of the stage, and its end of the pipe is for the channels of the stage, holds
-- at most SETS sets of scenes, has sent nothing, and nothing came back to it
pub record MayStage (stage : SharedView) (pass : PassView) (pipe : StageView) : Type 0 where
  pub tick : MayTick stage pass
  pub channels : pipe.channels ≡ stage.sizes.channels
  pub sent : pipe.sent ≡ []
  pub returned : pipe.returned ≡ []
  pub held : length pipe.held ≤ SETS

-- what the side that makes ticks has: a pass, a clock, and its end of the pipe
pub record Staging : Type 0 where
  pub pass : PassView
  pub clock : ClockState
  pub pipe : StageView

-- the pipe gave scenes to fill
pub record GetsRoom (old new : StageView) : Type 0 where
  pub scenes : List (List Drawn)
  pub room : GivesRoom (Free scenes) old new

-- a tick was made after the given events and a history
pub record MakesTick (given : List Event) (old new : PassView) : Type 0 where
  pub history : List Event
  pub found : IsFound old history
  pub time : ticks (given ++ history) < MAX_TICKS
  pub after : new ≡ added old history Tick

-- the pipe gave scenes to fill, then the clock gave a pulse, and then a tick was made and its scenes were sent
pub record StagesTick (given : List Event) (old new : Staging) : Type 0 where
  pub got : StageView
  pub room : GetsRoom old.pipe got
  pub tick : MakesTick given old.pass new.pass
  pub clock : new.clock ≡ after_pulse old.clock
  pub sent : new.pipe ≡ record got { sent = got.sent ++ staged_item got.channels (given ++ tick.history) ∷ [] }

-- what one step does, by the end that was met, if any
abbrev pub MakesStep : List Event → Result (Unit {0}) TickEnd → Staging → Staging → Type 0
MakesStep given (Ok done) old new = StagesTick given old new
MakesStep given (Err ClockClosed) old new = GetsRoom old.pipe new.pipe × (new.pass ≡ old.pass) × (new.clock ≡ after_clock_closed old.clock)
MakesStep given (Err (Ended at)) old new =
    GetsRoom old.pipe new.pipe × Looks old.pass (λ history. stop_at (given ++ history) ≡ Some at) new.pass × (new.clock ≡ after_pulse old.clock)
MakesStep given (Err TicksOver) old new =
    GetsRoom old.pipe new.pipe × Looks old.pass (λ history. (stop_at (given ++ history) ≡ None) × (MAX_TICKS ≤ ticks (given ++ history))) new.pass × (new.clock ≡ after_pulse old.clock)
MakesStep given (Err ClockFault) old new = GetsRoom old.pipe new.pipe × (new.pass ≡ old.pass) × (new.clock ≡ after_clock_fault old.clock)
MakesStep given (Err (OutFault channel)) old new = GivesRoom (Broken channel) old.pipe new.pipe × (new.pass ≡ old.pass) × (new.clock ≡ old.clock)

-- no report of a failed output came, or, if the end is OutFault, one came last
abbrev pub IsTold : TickEnd → ℕ → List Returned → Type 0
IsTold ClockClosed channels returned = list_any (is_news channels) returned ≡ false
IsTold (Ended at) channels returned = list_any (is_news channels) returned ≡ false
IsTold TicksOver channels returned = list_any (is_news channels) returned ≡ false
IsTold ClockFault channels returned = list_any (is_news channels) returned ≡ false
IsTold (OutFault channel) channels returned = EndsWithNews channels returned

-- the end of the pipe has kept its pipe and its channels
pub record IsSamePipe (old new : StageView) : Type 0 where
  pub pipe : new.pipe ≡ old.pipe
  pub channels : new.channels ≡ old.channels

-- no more ticks are made, and the stage is not stopped yet
pub record EndsStaging (given : List Event) (end : TickEnd) (old new : Staging) : Type 0 where
  pub first : new.pass.number ≡ 0
  pub seen : IsPrefix old.pass.seen new.pass.seen
  pub made : IsKnown new.pass → MadeTicks given new.pass
  pub clock : new.clock ≡ clock_at_end end (length new.pass.made) old.clock
  pub turns : new.pass.turns ≡ old.pass.turns + pulses_taken end (length new.pass.made)
  pub ends : new.pass.ends ≡ old.pass.ends
  pub cause : IsAtEnd given end new.pass
  pub sent : IsKnown new.pass → new.pipe.sent ≡ staged_of old.pipe.channels given new.pass.seen
  pub few : length new.pipe.sent ≤ SETS + free_count old.pipe.channels new.pipe.returned
  pub told : IsTold end old.pipe.channels new.pipe.returned
  pub same : IsSamePipe old.pipe new.pipe

-- all ticks were made and their scenes sent, the end mark too, and the stage was stopped
pub record HasStaged (given : List Event) (end : TickEnd) (old new : Staging) : Type 0 where
  pub first : new.pass.number ≡ 0
  pub seen : IsPrefix old.pass.seen new.pass.seen
  pub made : new.pass.made ≡ tick_positions new.pass.seen
  pub clock : new.clock ≡ clock_at_end end (ticks new.pass.seen) old.clock
  pub turns : new.pass.turns ≡ old.pass.turns + turns_won end (ticks new.pass.seen)
  pub pass : EndsPass given end old.pass new.pass
  pub sent : new.pipe.sent ≡ staged_of old.pipe.channels given new.pass.seen ++ Done ∷ []
  pub few : ticks new.pass.seen ≤ SETS + free_count old.pipe.channels new.pipe.returned
  pub told : IsTold end old.pipe.channels new.pipe.returned
  pub same : IsSamePipe old.pipe new.pipe
