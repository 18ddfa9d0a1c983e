use Rattle.std.proofs.Common.{◌≡◌, ℕ, ◌<◌}
use Rattle.lane_blend.specs.Rows.{pixel_at}
use Rattle.row_render.specs.inner.Rasters.{placed_at}
use Rattle.row_render.proofs.placing.place_columns.Given as goal

-- the columns so far show the raster by the fill and the clip
abbrev pub invariant-loop-x : goal.invariant-loop-x
invariant-loop-x l = (i : ℕ) → i < l.x → pixel_at l.row i ≡ placed_at l.layer l.width (pixel_at l.raster) i
