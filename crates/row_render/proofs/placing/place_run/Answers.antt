use Rattle.std.proofs.Common.{ℕ, ◌+◌, ◌*◌, ◌/◌, sym, subst, ℤ, to_z, of_z, w64}
use Rattle.std.specs.Prelude.{Some, None}
use Rattle.play_types.specs.Setting.{number_at}
use Rattle.pixel_math.specs.Pixel.{PixelView}
use Rattle.history_model.specs.pictures.Placing.{visible_column}
use Rattle.play_scene.proofs.Fills.{visible-is}
use Rattle.lane_blend.specs.Rows.{IsRow, width_of}
use Rattle.lane_blend.proofs.Rows.{AreLowered-row}
use Rattle.row_render.specs.inner.Shown.{IsShownRun}
use Rattle.row_render.proofs.Placed.{shown-lowered}
use Rattle.row_render.proofs.PlacedRuns.{placed_none, placed_run}
use Rattle.row_render.proofs.placing.place_run.Goals as goal

pub returns-in_default-clause-row : goal.returns-in_default-clause-row
returns-in_default-clause-row c =
    let layer = c.args.layer.now in
    let width = c.args.width in
    let fill = c.requires.range.fill in
    let clip = c.requires.range.clip in
    placed_none layer width c.args.raster.now c.args.row.now c.fill_row.new.row c.requires.row
    (subst (λ (p : PixelView). IsRow (width_of c.args.row.now) (λ (i : ℕ). p) c.fill_row.new.row) c.transparent.ensures c.fill_row.ensures.row)
    (λ x lt. visible-is width layer.fill layer.clip 0 x None fill.0 fill.2 clip.0 clip.2 (sym (c.shown_run.ensures.hidden c.in_default.is x lt)))

pub returns-clause-row : goal.returns-clause-row
returns-clause-row c =
    let layer = c.args.layer.now in
    let width = c.args.width in
    let fill = c.requires.range.fill in
    let clip = c.requires.range.clip in
    let run = c.in-Some.run' in
    let wide = λ (z : ℤ). to_z w64 (of_z w64 z) in
    let is : IsShownRun width (wide (number_at layer.fill 0)) (wide (number_at layer.fill 2)) (wide (number_at layer.clip 0)) (wide (number_at layer.clip 2)) run =
    c.in-Some.ensures.shown in
    placed_run layer width c.args.raster.now c.args.row.now c.fill_row.new.row c.gather_run.new.row run c.requires.row c.gather_run.auto.row
    (subst (λ (p : PixelView). IsRow (width_of c.args.row.now) (λ (i : ℕ). p) c.fill_row.new.row) c.transparent.ensures c.fill_row.ensures.row)
    (λ x lt out. visible-is width layer.fill layer.clip 0 x None fill.0 fill.2 clip.0 clip.2 (sym (is.hidden x lt out)))
    (λ i lt. visible-is width layer.fill layer.clip 0 (run.from + i) (Some ((run.number + i * 2000000) / run.divisor)) fill.0 fill.2 clip.0 clip.2 (sym (is.shown i lt)))
    c.gather_run.ensures.there c.gather_run.ensures.others

pub returns-clause-lowered : goal.returns-clause-lowered
returns-clause-lowered c =
    let layer = c.args.layer.now in
    let width = c.args.width in
    let raster = c.args.raster.now in
    let fill = c.requires.range.fill in
    let clip = c.requires.range.clip in
    let run = c.in-Some.run' in
    let wide = λ (z : ℤ). to_z w64 (of_z w64 z) in
    let is : IsShownRun width (wide (number_at layer.fill 0)) (wide (number_at layer.fill 2)) (wide (number_at layer.clip 0)) (wide (number_at layer.clip 2)) run =
    c.in-Some.ensures.shown in
    let row = placed_run layer width c.args.raster.now c.args.row.now c.fill_row.new.row c.gather_run.new.row run c.requires.row c.gather_run.auto.row
    (subst (λ (p : PixelView). IsRow (width_of c.args.row.now) (λ (i : ℕ). p) c.fill_row.new.row) c.transparent.ensures c.fill_row.ensures.row)
    (λ x lt out. visible-is width layer.fill layer.clip 0 x None fill.0 fill.2 clip.0 clip.2 (sym (is.hidden x lt out)))
    (λ i lt. visible-is width layer.fill layer.clip 0 (run.from + i) (Some ((run.number + i * 2000000) / run.divisor)) fill.0 fill.2 clip.0 clip.2 (sym (is.shown i lt)))
    c.gather_run.ensures.there c.gather_run.ensures.others in
    AreLowered-row width _ c.gather_run.new.row row
    (λ i lt. shown-lowered raster (visible_column width layer.fill layer.clip 0 i) c.requires.lowered)
