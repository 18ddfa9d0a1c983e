-- The copies of a sheet in order, and the lines that are left of them.
use Rattle.std.specs.Prelude.{◌≡◌, ℕ, ◌-◌, ◌<◌, ◌≤◌, ◌==◌, ◌&&◌, nat_lt, max, if◌then◌else◌, Bool, List, [], ◌∷◌, ◌++◌, take, flat_map, replicate, slice_get}
use Rattle.std.specs.List.{AllByRecursion, list_all}
use Rattle.std.specs.Option.{option_map_or}
use Rattle.std.specs.Ordering.{nat_cmp, ordering_then}
use Rattle.std.specs.declared.cmp.Ordering.{Ordering}
use Rattle.history_model.specs.scripts.Line.{ScriptLine, Ticks, Said}
use Rattle.play_schedule.specs.declared.cue.Cue.{Cue}
use Rattle.play_schedule.specs.Unfolding.{cue_lines}

-- a moment and the number of a cue, and how many copies of that cue are due then
abbrev pub Entry : Type 0
Entry = (ℕ × ℕ) × ℕ

-- by moment, and then by cue
abbrev pub key_cmp : ℕ × ℕ → ℕ × ℕ → Ordering
key_cmp one other = ordering_then (nat_cmp one.0 other.0) (nat_cmp one.1 other.1)

-- the lines of `count` copies of a cue
abbrev pub copied_lines : ℕ → Cue → List ScriptLine
copied_lines count cue = replicate count (Said cue.tag cue.text)

-- the lines of an entry
abbrev pub entry_lines : List Cue → Entry → List ScriptLine
entry_lines cues entry = option_map_or (copied_lines entry.1) (slice_get cues entry.0.1) []

-- the lines of entries after `taken` ticks, up to the end of the sheet: ticks up to the moment of each entry, and its lines
abbrev pub lines_left : List Cue → ℕ → ℕ → List Entry → List ScriptLine
lines_left cues ticks taken [] = replicate (ticks - taken) (Ticks 1)
lines_left cues ticks taken (entry ∷ entries) =
    replicate (entry.0.0 - taken) (Ticks 1) ++ (entry_lines cues entry ++ lines_left cues ticks (max taken entry.0.0) entries)

-- the lines of the entries of a moment
abbrev pub due_in : List Cue → ℕ → List Entry → List ScriptLine
due_in cues moment entries = flat_map (λ (entry : Entry). if entry.0.0 == moment then entry_lines cues entry else []) entries

-- the first key comes before the second
abbrev pub Precedes : ℕ × ℕ → ℕ × ℕ → Type 0
Precedes one other = (one.0 ≤ other.0) × (other.0 ≤ one.0 → one.1 < other.1)

-- the keys ascend
abbrev pub AreAscending : List Entry → Type 0
AreAscending [] = Unit {0}
AreAscending (entry ∷ entries) = AllByRecursion (λ (other : Entry). Precedes entry.0 other.0) entries × AreAscending entries

-- each entry is of one of the first `cues` cues and has a copy, and is due no later than the end of the sheet
abbrev pub AreOf : ℕ → ℕ → List Entry → Type 0
AreOf ticks cues entries = AllByRecursion (λ (entry : Entry). (entry.0.1 < cues) × ((0 < entry.1) × (entry.0.0 ≤ ticks))) entries

-- the entries are those of the first `done` cues
pub record IsOrderOf (cues : List Cue) (ticks done : ℕ) (entries : List Entry) : Type 0 where
  pub ascending : AreAscending entries
  pub each : AreOf ticks done entries
  pub due : (moment : ℕ) → due_in cues moment entries ≡ flat_map (cue_lines moment) (take done cues)

-- the test of whether each entry is of a cue and has a copy
abbrev pub are_of : ℕ → List Entry → Bool
are_of cues entries = list_all (λ (entry : Entry). nat_lt entry.0.1 cues && nat_lt 0 entry.1) entries
