-- The seat of a pass after the steps of a call.
use Rattle.std.specs.Prelude.{◌≡◌, ℕ, suc, ◌⊎◌, true, false, List, [], ◌∷◌, ◌++◌, None, map}
use mathlib.Core.List.{IsPrefix}
use mathlib.Core.Option.{some}
use lib.ListN.{get_elem?}
use Rattle.atomic_table.specs.Seated.{TableId}
use Rattle.play_types.specs.declared.event.Event.{Event}
use Rattle.stage_core.specs.Stage.{StageView}
use Rattle.stage_lock.specs.Own.{is_final, is_own, made_by}
use Rattle.stage_lock.specs.Views.{PassView, SharedView, stage_of}
use Rattle.stage_lock.specs.Calls.{longer, new_pass}
use Rattle.stage_lock.specs.Seats.{SeatView, grown, holding, kept_of, kept_seat, released}
use Rattle.stage_lock.specs.Rule.{Seat}

-- a table has the two words and the slot of a shared stage
pub record IsSized (table_id : TableId) : Type 0 where
  pub words : table_id.words ≡ 2
  pub slots : table_id.slots ≡ 1

-- a pass between two calls: it has taken no slot, does not hold the turn, and keeps no other pass
pub record IsAtRest (m : Seat) (n : ℕ) : Type 0 where
  pub free : m.1 ≡ []
  pub rests : m.0.holds ≡ false
  pub pass : m.0.is_pass ≡ true
  pub number : m.0.number ≡ n
  pub olds : m.0.olds ≡ []
  pub kept : m.0.kept ≡ []

-- a note
pub record IsNote (m : Seat) : Type 0 where
  pub free : m.1 ≡ []
  pub not_pass : m.0.is_pass ≡ false

-- the seat holds the turn, and the stage was taken out of its slot
pub record IsOut (m : Seat) : Type 0 where
  pub pass : m.0.is_pass ≡ true
  pub holds : m.0.holds ≡ true
  pub slot : m.1 ≡ (0, None) ∷ []

-- a seat has won the turn and found a history, and has taken out the stage after it
pub record HasWon (m : Seat) (stage : StageView) (n : Seat) : Type 0 where
  pub log : List Event
  pub seen : IsPrefix m.0.seen log
  pub made : made_by m.0.number log ≡ m.0.made
  pub made_seen : made_by m.0.number m.0.seen ≡ m.0.made
  pub whole : stage ≡ stage_of m.0.sizes log
  pub after : n ≡ (holding m.0 log, (0, None) ∷ [])

-- a stage is that of a seat's history and one event more, which is the seat's own or the stop of tag 0.0
pub record HasEvent (v : SeatView) (stage : StageView) : Type 0 where
  pub event : Event
  pub own : (is_own v.number event ≡ true) ⊎ (is_final event ≡ true)
  pub whole : stage ≡ stage_of v.sizes (v.seen ++ event ∷ [])

-- the history is now that of this stage, and the seat has given up the turn
pub record HasEntered (v : SeatView) (stage : StageView) (n : Seat) : Type 0 where
  pub log : List Event
  pub whole : stage ≡ stage_of v.sizes log
  pub after : n ≡ (released (grown v log), [])

-- a seat has seen the longer of its own history and another, of which the shorter is a prefix
pub record HasMet (v : SeatView) (seen : List Event) (w : SeatView) : Type 0 where
  pub after : w ≡ record v { seen = longer v.seen seen }
  pub own : IsPrefix v.seen w.seen
  pub other : IsPrefix seen w.seen

-- a pass has taken in one pass
pub record HasAbsorbed (v u w : SeatView) : Type 0 where
  pub after : w ≡ record v { seen = longer v.seen u.seen; kept = kept_seat u ∷ v.kept }
  pub own : IsPrefix v.seen w.seen
  pub other : IsPrefix u.seen w.seen

-- a pass has taken in just these passes
pub record HasTaken (passes : List PassView) (v w : SeatView) : Type 0 where
  pub after : w ≡ record v { seen = w.seen; kept = map kept_of passes }
  pub seen : IsPrefix v.seen w.seen
  pub each : (i : ℕ) (p : PassView) → get_elem? passes i ≡ some p → IsPrefix p.seen w.seen

-- the passes of a shared stage that were made after pass 0, from number 1 on
abbrev pub AreEnrolled : SharedView → List PassView → Type 0
AreEnrolled stage passes = (k : ℕ) (p : PassView) → get_elem? passes k ≡ some p → p ≡ new_pass stage (suc k)
