use Rattle.std.proofs.Common.{rules, arith, ◌≡◌, ℕ, false, ap, refl, ◌∙◌, not, pos, to_z, of_z, w64}
use Rattle.std.specs.Prelude.{Option, Some, None, is_some}
use Rattle.std.proofs.lemmas.Int.{ints}
use Rattle.history_model.specs.pictures.Frame.{placement_of}
use Rattle.history_model.specs.pictures.Placing.{visible_column}
use Rattle.history_model.specs.pictures.Raster.{raster_pixel}
use Rattle.play_scene.proofs.Fills.{opacity_fits, placed-no_row, visible-is}
use Rattle.row_render.proofs.Placed.{clear_shown, none_shown}
use Rattle.row_render.proofs.layer.shows_nothing.Goals as goal

none_from_test : (line : Option ℕ) → is_some line ≡ false → line ≡ None
none_from_test None none = refl
none_from_test (Some line) none = cc

pub returns-then-layer-eq0 : goal.returns-then-layer-eq0
returns-then-layer-eq0 c = λ nothing pictures x.
    let layer = c.args.layer.now in
    let opacity : to_z w64 (of_z w64 layer.opacity) ≡ layer.opacity = opacity_fits layer.opacity c.requires.range.opacity in
    let same = c.if-layer-eq0.true in
    let none : layer.opacity ≡ pos 0 = first_of (search (rules, same), grind (arith, ints, same, opacity), cc) in
    none_shown pictures c.args.view.now.size layer x c.args.view.now.y none

pub returns-then-is_clear_raster : goal.returns-then-is_clear_raster
returns-then-is_clear_raster c = λ nothing pictures x.
    let size = c.args.view.now.size in
    clear_shown pictures size c.args.layer.now x c.args.view.now.y (c.is_clear_raster.ensures c.if-is_clear_raster.true pictures size)

pub returns : goal.returns
returns c = λ nothing pictures x.
    let layer = c.args.layer.now in
    let size = c.args.view.now.size in
    let fill = c.requires.range.fill in
    let clip = c.requires.range.clip in
    let down : visible_column size.height layer.fill layer.clip 1 c.args.view.now.y ≡ None =
    visible-is size.height layer.fill layer.clip 1 c.args.view.now.y c.visible_column-line.result fill.1 fill.3 clip.1 clip.3 c.visible_column-line.ensures.value ∙ none_from_test c.visible_column-line.result (c.is_none.ensures ∙ ap not nothing) in
    placed-no_row size (placement_of layer) (raster_pixel pictures size layer) x c.args.view.now.y down
