-- A position in the order of copies.
use Rattle.std.specs.Prelude.{◌≡◌, ℕ, ◌<◌, true, List, ◌∷◌}
use Rattle.history_model.specs.scripts.Line.{ScriptLine}
use Rattle.play_schedule.specs.declared.cue.Cue.{Cue}
use Rattle.play_schedule.specs.declared.cursor.Cursor.{Cursor}
use Rattle.play_schedule.specs.Order.{are_of, lines_left}

-- the lines that are left: the copies that come next are an entry before the others
abbrev pub left_of : List Cue → Cursor → List ScriptLine
left_of cues cursor =
    lines_left cues cursor.ticks cursor.taken (((cursor.moment, cursor.cue), cursor.copies) ∷ cursor.later.entries)

-- the copies that come next and those that come later are of the first `cues` cues
pub record IsWithin (cues : ℕ) (cursor : Cursor) : Type 0 where
  pub next : 0 < cursor.copies → cursor.cue < cues
  pub later : are_of cues cursor.later.entries ≡ true
