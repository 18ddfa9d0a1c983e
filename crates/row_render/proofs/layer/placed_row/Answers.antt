use Rattle.std.proofs.Common.{ℕ}
use Rattle.history_model.specs.pictures.Raster.{raster_pixel}
use Rattle.row_render.proofs.Placed.{kept_row, placed_rows}
use Rattle.row_render.proofs.layer.placed_row.Goals as goal

pub returns-then-keeps_columns-clause-row : goal.returns-then-keeps_columns-clause-row
returns-then-keeps_columns-clause-row c = λ pictures are.
    let size = c.args.view.now.size in
    kept_row c.args.layer.now size.width (λ (x : ℕ). raster_pixel pictures size c.args.layer.now x c.args.y) c.raster_row.new.row
    (c.keeps_columns.ensures c.if-keeps_columns.true size.width) (c.raster_row.ensures.row pictures are)

pub returns-else-keeps_columns-clause-row : goal.returns-else-keeps_columns-clause-row
returns-else-keeps_columns-clause-row c = λ pictures are.
    let size = c.args.view.now.size in
    placed_rows c.args.layer.now size.width (λ (x : ℕ). raster_pixel pictures size c.args.layer.now x c.args.y)
    c.raster_row-else-keeps_columns.new.row c.place_row.new.row (c.raster_row-else-keeps_columns.ensures.row pictures are) c.place_row.ensures.row
