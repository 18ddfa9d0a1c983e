-- What a shared stage leaves when it is closed.
use Rattle.std.specs.Prelude.{◌≡◌, ℕ, ◌<◌, true, false, List, length}
use mathlib.Core.List.{IsPrefix}
use mathlib.Core.Option.{some}
use lib.ListN.{get_elem?}
use Rattle.play_types.specs.declared.event.Event.{Event}
use Rattle.stage_lock.specs.Own.{has_final, is_final, made_by}
use Rattle.stage_core.specs.Stage.{StageView}
use Rattle.stage_lock.specs.Views.{PassView, SharedView, stage_of}

-- the list holds every pass of a shared stage: each belongs to it, and they are as many as it has
pub record AreAll (stage : SharedView) (passes : List PassView) : Type 0 where
  pub each : (k : ℕ) (pass : PassView) → get_elem? passes k ≡ some pass → pass.stage ≡ stage
  pub many : length passes ≡ stage.sizes.passes

-- a pass has seen a prefix of this history, made exactly its own events in it, and has a number below that of the passes
pub record IsOf (history : List Event) (passes : ℕ) (pass : PassView) : Type 0 where
  pub seen : IsPrefix pass.seen history
  pub made : pass.made ≡ made_by pass.number history
  pub number : pass.number < passes

-- the k-th pass made the event at this position
pub record StandsIn (position : ℕ) (passes : List PassView) (k : ℕ) : Type 0 where
  pub pass : PassView
  pub at : get_elem? passes k ≡ some pass
  pub place : ℕ
  pub made : get_elem? pass.made place ≡ some position

-- exactly one pass made the event at this position
pub record StandsOnce (position : ℕ) (passes : List PassView) : Type 0 where
  pub k : ℕ
  pub stands : StandsIn position passes k
  pub only : (other : ℕ) → StandsIn position passes other → other ≡ k

-- one of the passes made the stop of tag 0.0
pub record SomeEnds (passes : List PassView) : Type 0 where
  pub k : ℕ
  pub pass : PassView
  pub at : get_elem? passes k ≡ some pass
  pub ends : pass.ends ≡ true

-- the passes have seen and made what is in this one history, and no event of it is left out but the stop of tag 0.0, which
-- one of them made
pub record Closes (passes : List PassView) (history : List Event) : Type 0 where
  pub each : (k : ℕ) (pass : PassView) → get_elem? passes k ≡ some pass → IsOf history (length passes) pass
  pub once : (position : ℕ) (event : Event) → get_elem? history position ≡ some event → is_final event ≡ false → StandsOnce position passes
  pub ends : has_final history ≡ true → SomeEnds passes

-- what closing a shared stage leaves: the stage after a history, which the passes have seen and made
pub record IsLeft (shared : SharedView) (passes : List PassView) (stage : StageView) : Type 0 where
  pub history : List Event
  pub whole : stage ≡ stage_of shared.sizes history
  pub closes : Closes passes history
