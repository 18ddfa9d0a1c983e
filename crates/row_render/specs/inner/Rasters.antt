-- The row of a layer's raster, and how it is laid into the frame.
use Rattle.std.specs.Prelude.{ℕ, ◌<◌, ◌≤◌, ◌⊎◌, Option, Some, None}
use Rattle.play_types.specs.Columns.{Column}
use Rattle.play_types.specs.declared.drawn.Drawn.{Drawn}
use Rattle.play_types.specs.declared.geometry.Geometry.{Geometry}
use Rattle.play_transitions.specs.Runs.{EndsInRaster}
use Rattle.play_transitions.specs.declared.row.Run.{Run}
use Rattle.pixel_math.specs.Pixel.{PixelView, transparent}
use Rattle.history_model.specs.pictures.Placing.{visible_column}
use Rattle.history_model.specs.pictures.Raster.{Pictures, column_pixel, still_pixel}

-- the pixel in row y of a column of a layer's transition on a raster of this size
abbrev pub moving_pixel : Pictures → Geometry → Drawn → ℕ → Column → PixelView
moving_pixel pictures raster layer y column =
    column_pixel column
    (λ (x : ℕ). still_pixel pictures raster layer.old x y) (λ (x : ℕ). still_pixel pictures raster layer.still x y)
    layer.step layer.trans.duration

-- a run of columns of a raster of `width` columns, which shows columns of such a raster
pub record IsRunOf (width : ℕ) (run : Run) : Type 0 where
  pub order : run.from ≤ run.to
  pub inside : run.to ≤ width
  pub shown : EndsInRaster width run

-- a column is outside a run
abbrev pub IsOutside : ℕ → Run → Type 0
IsOutside x run = (x < run.from) ⊎ (run.to ≤ x)

-- the pixel of a column of a raster, transparent if none is shown
abbrev pub shown_pixel : (ℕ → PixelView) → Option ℕ → PixelView
shown_pixel raster None = transparent
shown_pixel raster (Some column) = raster column

-- the pixel of a raster at the column that the fill and the clip of a layer show at column x of the frame
abbrev pub placed_at : Drawn → ℕ → (ℕ → PixelView) → ℕ → PixelView
placed_at layer width raster x = shown_pixel raster (visible_column width layer.fill layer.clip 0 x)
