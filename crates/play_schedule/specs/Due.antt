-- The copies of cues, and when they are due.
use Rattle.std.specs.Prelude.{ℕ, ◌+◌, ◌-◌, ◌*◌, nat_lt, Bool, List, sum_by}
use Rattle.std.specs.List.{list_any}
use Rattle.play_schedule.specs.declared.cue.Cue.{Cue}

-- the moment of the last copy of a cue: each copy is due `interval` ticks after the one before
abbrev pub last_moment : Cue → ℕ
last_moment cue = cue.moment + (cue.copies.count - 1) * cue.copies.interval

-- the number of the copies of all these cues
abbrev pub copies_in : List Cue → ℕ
copies_in cues = sum_by (λ (cue : Cue). cue.copies.count) cues

-- whether a copy of one of these cues is due after this moment
abbrev pub is_due_after : ℕ → List Cue → Bool
is_due_after moment cues = list_any (λ (cue : Cue). nat_lt moment (last_moment cue)) cues
