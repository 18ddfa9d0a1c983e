-- Sizes of pictures and of their sound.
use Rattle.std.specs.Prelude.{ℕ, ◌+◌, ◌*◌, ◌≤◌}
use Rattle.play_types.specs.declared.geometry.Geometry.{Geometry}
use Rattle.play_types.specs.declared.geometry.TheConstants.{MAX_SIDE, MAX_PAIRS}

-- 1 to 4096 columns and rows, and at most 4096 stereo pairs
pub record IsSize (width height pairs : ℕ) : Type 0 where
  pub some_columns : 1 ≤ width
  pub columns : width ≤ MAX_SIDE
  pub some_rows : 1 ≤ height
  pub rows : height ≤ MAX_SIDE
  pub sound : pairs ≤ MAX_PAIRS

-- the bytes of a frame: four a pixel, and four a stereo pair
abbrev pub frame_bytes : Geometry → ℕ
frame_bytes size = 4 * size.width * size.height + 4 * size.pairs
