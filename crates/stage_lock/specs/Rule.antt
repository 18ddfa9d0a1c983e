-- The rule of the shared stage, and what each step establishes.
-- Word 0 is the length of the history since the stage was shared, and word 1 is the turn: 0 while it is free. Slot 0 has the stage.
use Rattle.std.specs.Prelude.{◌≡◌, ◌≢◌, ℕ, ◌<◌, ◌≤◌, true, false, List, [], ◌∷◌, length, slice_index, Option, Some, None}
use mathlib.Core.Option.{some}
use mathlib.Core.List.{IsPrefix}
use lib.ListN.{get_elem?}
use Rattle.atomic_table.specs.Table.{Me, State, Step, rest}
use Rattle.play_types.specs.declared.event.Event.{Event}
use Rattle.stage_core.specs.Stage.{StageView}
use Rattle.stage_lock.specs.Own.{has_final, is_final, made_by, owner}
use Rattle.stage_lock.specs.Views.{Sizes, stage_of, whole}
use Rattle.stage_lock.specs.Seats.{KeptPass, SeatView, grown, holding, released, settled}

-- the table of a shared stage
abbrev pub Table : Type 0
Table = State (Option StageView) SeatView

-- a seat: what it knows, and the slots that it has taken
abbrev pub Seat : Type 0
Seat = Me (Option StageView) SeatView

-- what changes in a table: the history, the turn, the seat that won it last, and the number of passes that were made
pub record Moment : Type 0 where
  pub log : List Event
  pub turn : ℕ
  pub by : ℕ
  pub count : ℕ

-- a kept pass made exactly its own events in the history, and has a number below that of the passes
pub record IsKept (log : List Event) (count : ℕ) (k : KeptPass) : Type 0 where
  pub made : k.made ≡ made_by k.number log
  pub number : k.number < count

-- what a pass knows agrees with the history
pub record IsPass (sizes : Sizes) (log : List Event) (many : ℕ) (v : SeatView) : Type 0 where
  pub same : v.sizes ≡ sizes
  pub made : v.made ≡ made_by v.number log
  pub made_seen : v.made ≡ made_by v.number v.seen
  pub number : v.number < many
  pub count : v.number ≡ 0 → v.count ≡ many
  pub kept : (i : ℕ) (k : KeptPass) → get_elem? v.kept i ≡ some k → IsKept log many k

-- a seat that holds the turn: it is a pass that won the turn last, and it has seen the whole history
pub record IsHolder (now : Moment) (j : ℕ) (v : SeatView) : Type 0 where
  pub turn : now.turn ≡ 1
  pub by : now.by ≡ j
  pub seen : v.seen ≡ now.log
  pub pass : v.is_pass ≡ true

-- what the rule requires of seat j
pub record Fits (sizes : Sizes) (now : Moment) (j : ℕ) (v : SeatView) : Type 0 where
  pub seen : IsPrefix v.seen now.log
  pub olds : (i : ℕ) (o : List Event) → get_elem? v.olds i ≡ some o → IsPrefix o v.seen
  pub pass : v.is_pass ≡ true → IsPass sizes now.log now.count v
  pub holds : v.holds ≡ true → IsHolder now j v

-- seat j is a pass with this view
pub record IsAt (views : List SeatView) (j : ℕ) (v : SeatView) : Type 0 where
  pub at : get_elem? views j ≡ some v
  pub pass : v.is_pass ≡ true

-- seat j is a pass with this view, which keeps this pass as its i-th
pub record Keeps (views : List SeatView) (j : ℕ) (i : ℕ) (k : KeptPass) : Type 0 where
  pub v : SeatView
  pub at : IsAt views j v
  pub kept : get_elem? v.kept i ≡ some k

-- a pass, or one that is kept, made the stop of tag 0.0
pub data SomeoneEnded (views : List SeatView) : Type 0 where
  by_pass : (j : ℕ) (v : SeatView) → IsAt views j v → v.ends ≡ true → SomeoneEnded views
  by_kept : (j i : ℕ) (k : KeptPass) → Keeps views j i k → k.ends ≡ true → SomeoneEnded views

-- the numbers of the passes and of those that they keep all differ
pub record AreApart (views : List SeatView) : Type 0 where
  pub passes : (i j : ℕ) (v w : SeatView) → IsAt views i v → IsAt views j w → v.number ≡ w.number → i ≡ j
  pub kept : (i a j : ℕ) (k : KeptPass) (w : SeatView) → Keeps views i a k → IsAt views j w → k.number ≢ w.number
  pub both : (i a j b : ℕ) (k l : KeptPass) → Keeps views i a k → Keeps views j b l → k.number ≡ l.number → (i ≡ j) × (a ≡ b)

-- the rule: there is a history of which all this holds
pub record Ruled (sizes : Sizes) (s : Table) : Type 0 where
  pub log : List Event
  pub by : ℕ
  pub count : ℕ
  pub wide : length s.words ≡ 2
  pub counted : slice_index s.words 0 ≡ length log
  pub few : count ≤ sizes.passes
  pub each : (j : ℕ) (v : SeatView) → get_elem? s.views j ≡ some v → Fits sizes (record { log = log; turn = slice_index s.words 1; by = by; count = count }) j v
  pub apart : AreApart s.views
  pub owned : (i : ℕ) (e : Event) → get_elem? log i ≡ some e → is_final e ≡ false → owner e < count
  pub ended : has_final log ≡ true → SomeoneEnded s.views
  pub home : slice_index s.words 1 ≡ 0 → get_elem? s.homes 0 ≡ some (some (Some (stage_of sizes log)))

-- the journal of the stage that was taken last
abbrev pub journal_in : List (ℕ × Option StageView) → List Event
journal_in [] = []
journal_in ((k, Some stage) ∷ slots) = stage.journal.events
journal_in ((k, None) ∷ slots) = []

-- a seat wins the turn, finds this history, and takes the stage out
pub record WinsTurn (m : Seat) (n : Seat) : Type 0 where
  pub log : List Event
  pub seen : IsPrefix m.0.seen log
  pub made : made_by m.0.number log ≡ m.0.made
  pub made_seen : made_by m.0.number m.0.seen ≡ m.0.made
  pub after : n ≡ (holding m.0 log, (0, Some (stage_of m.0.sizes log)) ∷ m.1)

-- the turn was free and is won, or nothing has changed
abbrev pub TakesTurn : Step (Option StageView) → Seat → ℕ → Seat → Type 0
TakesTurn step m found n = (found ≡ 0 → WinsTurn m n) × (found ≢ 0 → n ≡ m)

-- the history is now the one that the stage's journal has since the stage was shared
pub record Enters (m : Seat) (n : Seat) : Type 0 where
  pub log : List Event
  pub journal : journal_in m.1 ≡ whole m.0.sizes log
  pub after : n ≡ (grown m.0 log, m.1)

-- the last event of the stage's journal has entered the history
abbrev pub EntersEvent : Step (Option StageView) → Seat → ℕ → Seat → Type 0
EntersEvent step m found n = Enters m n

-- the turn is given up, with the stage back in its slot
abbrev pub GivesTurn : Step (Option StageView) → Seat → ℕ → Seat → Type 0
GivesTurn step m found n = n ≡ (released m.0, rest m.1)

-- a number below that of the passes that is neither a pass's own nor that of one it keeps
pub record IsElsewhere (v : SeatView) (n : ℕ) : Type 0 where
  pub number : n < v.sizes.passes
  pub other : n ≢ v.number
  pub not_kept : (i : ℕ) (k : KeptPass) → get_elem? v.kept i ≡ some k → k.number ≢ n

-- who made the stop of tag 0.0, as a pass knows it: itself, one that it keeps, or one that is elsewhere
pub data WhoEnded (v : SeatView) : Type 0 where
  by_itself : v.ends ≡ true → WhoEnded v
  by_one_kept : (i : ℕ) (k : KeptPass) → get_elem? v.kept i ≡ some k → k.ends ≡ true → WhoEnded v
  by_another : (n : ℕ) → IsElsewhere v n → WhoEnded v

-- what holds of the history that the holder of the turn has seen, and of the passes that it keeps
pub record IsTold (v : SeatView) : Type 0 where
  pub made : v.made ≡ made_by v.number v.seen
  pub number : v.number < v.sizes.passes
  pub kept : (i : ℕ) (k : KeptPass) → get_elem? v.kept i ≡ some k → IsKept v.seen v.sizes.passes k
  pub apart : (i : ℕ) (k : KeptPass) → get_elem? v.kept i ≡ some k → k.number ≢ v.number
  pub both : (i j : ℕ) (k l : KeptPass) → get_elem? v.kept i ≡ some k → get_elem? v.kept j ≡ some l → k.number ≡ l.number → i ≡ j
  pub owned : (i : ℕ) (e : Event) → get_elem? v.seen i ≡ some e → is_final e ≡ false → owner e < v.sizes.passes
  pub ended : has_final v.seen ≡ true → WhoEnded v

-- the length was read by the holder of the turn
abbrev pub Counts : Step (Option StageView) → Seat → ℕ → Seat → Type 0
Counts step m found n = (n ≡ m) × (found ≡ length m.0.seen) × IsTold m.0

-- each of the two old histories was a prefix of what is seen
abbrev pub Settles : Step (Option StageView) → Seat → ℕ → Seat → Type 0
Settles step m found n = (n ≡ (settled m.0, m.1)) × ((i : ℕ) (o : List Event) → get_elem? m.0.olds i ≡ some o → IsPrefix o m.0.seen)
