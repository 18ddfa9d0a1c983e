-- Which ticks a film has.
use Rattle.std.specs.Prelude.{◌≤◌}
use Rattle.play_types.specs.declared.clip.TheConstants.{MAX_FRAMES}
use Rattle.history_model.specs.recordings.Film.{Span}

-- a film has 1 to 1,000,000 ticks
pub record IsFilm (span : Span) : Type 0 where
  pub some_frames : 1 ≤ span.frames
  pub frames : span.frames ≤ MAX_FRAMES
