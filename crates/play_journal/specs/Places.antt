-- Places in a history, by the counts of the events before them.
use Rattle.std.specs.Prelude.{◌≡◌, ℕ, ◌+◌, ◌≤◌, ◌↔◌, Bool, true, false, List, [], ◌∷◌, ◌++◌}
use Rattle.play_types.specs.History.{held_by}
use Rattle.play_types.specs.declared.event.Event.{Event}
use Rattle.play_types.specs.declared.event.Event.TheVariants.{Do, Batch, Tick, Stop}
use Rattle.play_journal.specs.Runs.{AreRuns, Run}
use Rattle.play_journal.specs.declared.room.TheConstants.{ROOM_COMMANDS}

-- how many commands and batches are before a place, how many ticks after the last of them, and whether a stop is before it
pub record Passed : Type 0 where
  pub entries : ℕ
  pub ticks : ℕ
  pub stopped : Bool

-- the counts after these further events
abbrev pub passed_more : Passed → List Event → Passed
passed_more p [] = p
passed_more p (Do tag cmd ∷ events) = passed_more (record { entries = p.entries + 1; ticks = 0; stopped = p.stopped }) events
passed_more p (Batch tag cmds ∷ events) = passed_more (record { entries = p.entries + 1; ticks = 0; stopped = p.stopped }) events
passed_more p (Tick ∷ events) = passed_more (record { entries = p.entries; ticks = p.ticks + 1; stopped = p.stopped }) events
passed_more p (Stop tag ∷ events) = passed_more (record { entries = p.entries; ticks = p.ticks; stopped = true }) events

-- the counts before the first event
abbrev pub none_passed : Passed
none_passed = record { entries = 0; ticks = 0; stopped = false }

-- the counts of these events
abbrev pub passed : List Event → Passed
passed events = passed_more none_passed events

-- of the later events, which follow the past ones, a first part was copied as these runs, and the new place is behind it. The
-- part is all of them exactly if `is_all` is true, it is not empty if the first event fits into an empty room, and nothing is
-- left behind a stop
pub record Copies (past later : List Event) (is_all : Bool) (new : Passed) (runs : List Run) : Type 0 where
  pub part : List Event
  pub rest : List Event
  pub whole : later ≡ part ++ rest
  pub are : AreRuns runs part
  pub place : new ≡ passed (past ++ part)
  pub all : (is_all ≡ true) ↔ (rest ≡ [])
  pub some : (event : Event) (more : List Event) → later ≡ event ∷ more → held_by event ≤ ROOM_COMMANDS → part ≡ [] → ⊥
  pub stop : new.stopped ≡ true → rest ≡ []
