use Rattle.std.proofs.Common.{◌≡◌, sym, ap, ap₂, ◌∙◌, arith}
use Rattle.history_model.specs.pictures.Placing.{visible_column}
use Rattle.play_scene.proofs.Fills.{visible-is}
use Rattle.lane_blend.specs.Rows.{IsRow, pixel_at}
use Rattle.lane_blend.proofs.Rows.{AreLowered-row}
use Rattle.row_render.specs.inner.Rasters.{placed_at, shown_pixel}
use Rattle.row_render.proofs.Pieces.{written_more}
use Rattle.row_render.proofs.Placed.{shown-lowered}
use Rattle.row_render.proofs.placing.place_columns.Goals as goal
use Rattle.row_render.proofs.placing.place_columns.Goals.{in-Some, in-None}

pub loop-x-preserved : goal.loop-x-preserved
loop-x-preserved c =
    let layer = c.args.layer.now in
    let raster = c.args.raster.now in
    let x = c.loop-x.x in
    let fill = c.requires.range.fill in
    let clip = c.requires.range.clip in
    let row = c.match-visible_column.row in
    let seen : visible_column c.args.width layer.fill layer.clip 0 x ≡ c.visible_column.result =
    visible-is c.args.width layer.fill layer.clip 0 x c.visible_column.result fill.0 fill.2 clip.0 clip.2 c.visible_column.ensures.value in
    let more = written_more (placed_at layer c.args.width (pixel_at raster)) c.loop-x.row row x c.loop-x.invariant in
    elim c.match-visible_column.branch [
      | in-Some w ↦
          more
          (ap₂ pixel_at w.row-is (sym w.from-in-Some.ensures) ∙ w.copy_pixel.ensures.there ∙ ap (pixel_at raster) w.from.ensures
          ∙ sym (ap (shown_pixel (pixel_at raster)) (seen ∙ w.in-Some.is)))
          (λ k other. ap (λ r. pixel_at r k) w.row-is ∙ w.copy_pixel.ensures.others k (λ e. other (e ∙ w.from-in-Some.ensures)))
      | in-None w ↦
          more
          (ap₂ pixel_at w.row-is (sym w.from-in-None.ensures) ∙ w.clear_pixel.ensures.there
          ∙ sym (ap (shown_pixel (pixel_at raster)) (seen ∙ w.in-None.is)))
          (λ k other. ap (λ r. pixel_at r k) w.row-is ∙ w.clear_pixel.ensures.others k (λ e. other (e ∙ w.from-in-None.ensures)))
    ]

pub returns-clause-lowered : goal.returns-clause-lowered
returns-clause-lowered c =
    let layer = c.args.layer.now in
    let raster = c.args.raster.now in
    let is : IsRow c.args.width (placed_at layer c.args.width (pixel_at raster)) c.loop-x.row = record {
      len = c.loop-x.auto.row ∙ c.requires.row;
      pixels = λ i lt. c.loop-x.invariant i (omega (arith, lt, c.loop-x-test.false, c.loop-x.auto.x-end));
    } in
    AreLowered-row c.args.width _ c.loop-x.row is
    (λ i lt. shown-lowered raster (visible_column c.args.width layer.fill layer.clip 0 i) c.requires.lowered)
