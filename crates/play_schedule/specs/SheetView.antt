-- What contracts see of a sheet.
use Rattle.std.specs.Prelude.{ℕ, List}
use Rattle.play_schedule.specs.declared.cue.Cue.{Cue}

-- the cue lines in their order, and the number of ticks
pub record SheetView : Type 0 where
  pub cues : List Cue
  pub ticks : ℕ
