-- Which columns of the frame show a raster.
use Rattle.std.specs.Prelude.{◌≡◌, ℕ, ◌+◌, ◌*◌, ◌/◌, ◌<◌, ◌≤◌, ◌⊎◌, ◌^◌, Option, Some, None, ℤ, if◌then◌else◌}
use Rattle.history_model.specs.pictures.Placing.{filled_column, is_kept}
use Rattle.row_render.specs.declared.shown.ShownRun.{ShownRun}

-- the raster column that frame column x shows by the left edges and widths of a fill and a clip
abbrev pub column_by : ℕ → ℤ → ℤ → ℤ → ℤ → ℕ → Option ℕ
column_by width edge scale left extent x = if is_kept width left extent x then filled_column width edge scale x else None

-- these columns show the raster, and the others show nothing of it
pub record IsShownRun (width : ℕ) (edge scale left extent : ℤ) (run : ShownRun) : Type 0 where
  pub order : run.from ≤ run.to
  pub inside : run.to ≤ width
  pub some : 0 < run.divisor
  pub few : run.divisor < 2 ^ 60
  pub hidden : (x : ℕ) → x < width → (x < run.from) ⊎ (run.to ≤ x) → column_by width edge scale left extent x ≡ None
  pub shown : (i : ℕ) → run.from + i < run.to →
      column_by width edge scale left extent (run.from + i) ≡ Some ((run.number + i * 2000000) / run.divisor)
  pub within : (i : ℕ) → run.from + i < run.to → (run.number + i * 2000000) / run.divisor < width
