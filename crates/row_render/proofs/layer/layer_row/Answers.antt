use Rattle.std.proofs.Common.{rules, arith, ◌≡◌, ℕ, ◌∙◌, subst, ℤ, pos, nat_abs, to_z, of_z, w64}
use Rattle.std.specs.Prelude.{Some, None}
use Rattle.std.proofs.lemmas.Int.{ints}
use Rattle.pixel_math.specs.Pixel.{PixelView}
use Rattle.pixel_math.specs.Arithmetic.{fade}
use Rattle.history_model.specs.pictures.Placing.{visible_column}
use Rattle.history_model.specs.pictures.Raster.{raster_pixel}
use Rattle.play_scene.proofs.Fills.{opacity_fits, visible-is}
use Rattle.lane_blend.specs.Rows.{IsRow, width_of}
use Rattle.lane_blend.proofs.Pieces.{IsRow-fade}
use Rattle.row_render.specs.inner.Rasters.{placed_at}
use Rattle.row_render.proofs.Placed.{faded_row, no_row, whole_row}
use Rattle.row_render.proofs.layer.layer_row.Goals as goal

pub returns-in_default-clause-row : goal.returns-in_default-clause-row
returns-in_default-clause-row c = λ pictures are.
    let layer = c.args.layer.now in
    let size = c.args.view.now.size in
    let fill = c.requires.range.fill in
    let clip = c.requires.range.clip in
    let down : visible_column size.height layer.fill layer.clip 1 c.args.view.now.y ≡ None =
    visible-is size.height layer.fill layer.clip 1 c.args.view.now.y c.visible_column-line.result fill.1 fill.3 clip.1 clip.3 c.visible_column-line.ensures.value ∙ c.in_default.is in
    no_row pictures size layer c.args.view.now.y c.args.row.now c.fill_row.new.row c.requires.row down
    (subst (λ (p : PixelView). IsRow (width_of c.args.row.now) (λ (i : ℕ). p) c.fill_row.new.row) c.transparent.ensures c.fill_row.ensures.row)

pub returns-then-layer-ne-MICROS_PER_UNIT-clause-row : goal.returns-then-layer-ne-MICROS_PER_UNIT-clause-row
returns-then-layer-ne-MICROS_PER_UNIT-clause-row c = λ pictures are.
    let layer = c.args.layer.now in
    let size = c.args.view.now.size in
    let fill = c.requires.range.fill in
    let clip = c.requires.range.clip in
    let line = c.in-Some.line in
    let down : visible_column size.height layer.fill layer.clip 1 c.args.view.now.y ≡ Some line =
    visible-is size.height layer.fill layer.clip 1 c.args.view.now.y c.visible_column-line.result fill.1 fill.3 clip.1 clip.3 c.visible_column-line.ensures.value ∙ c.in-Some.is in
    let placed = placed_at layer size.width (λ (x : ℕ). raster_pixel pictures size layer x line) in
    let opacity : to_z w64 (of_z w64 layer.opacity) ≡ layer.opacity = opacity_fits layer.opacity c.requires.range.opacity in
    faded_row pictures size layer line c.args.view.now.y c.fade_row.new.row down
    (subst (λ (o : ℤ). IsRow size.width (λ x. fade (placed x) (nat_abs o)) c.fade_row.new.row) opacity
    (IsRow-fade size.width placed _ c.placed_row.new.row c.fade_row.new.row (c.placed_row.ensures.row pictures are) c.fade_row.ensures.row))

pub returns-else-layer-ne-MICROS_PER_UNIT-clause-row : goal.returns-else-layer-ne-MICROS_PER_UNIT-clause-row
returns-else-layer-ne-MICROS_PER_UNIT-clause-row c = λ pictures are.
    let layer = c.args.layer.now in
    let size = c.args.view.now.size in
    let fill = c.requires.range.fill in
    let clip = c.requires.range.clip in
    let line = c.in-Some.line in
    let down : visible_column size.height layer.fill layer.clip 1 c.args.view.now.y ≡ Some line =
    visible-is size.height layer.fill layer.clip 1 c.args.view.now.y c.visible_column-line.result fill.1 fill.3 clip.1 clip.3 c.visible_column-line.ensures.value ∙ c.in-Some.is in
    let opacity : to_z w64 (of_z w64 layer.opacity) ≡ layer.opacity = opacity_fits layer.opacity c.requires.range.opacity in
    let same = c.if-layer-ne-MICROS_PER_UNIT.false in
    let whole : layer.opacity ≡ pos 1000000 = first_of (search (rules, same), grind (arith, ints, same, opacity), cc) in
    whole_row pictures size layer line c.args.view.now.y c.placed_row.new.row down whole (c.placed_row.ensures.row pictures are)
