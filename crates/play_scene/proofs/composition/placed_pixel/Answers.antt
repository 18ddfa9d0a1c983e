use Rattle.std.proofs.Common.{◌≡◌, ◌∙◌, sym, to_z, of_z, w64, nat_abs}
use Rattle.std.specs.Prelude.{Some, None}
use Rattle.pixel_math.specs.Arithmetic.{fade}
use Rattle.history_model.specs.pictures.Frame.{placement_of}
use Rattle.history_model.specs.pictures.Placing.{visible_column}
use Rattle.history_model.specs.pictures.Raster.{raster_pixel}
use Rattle.play_scene.proofs.Fills.{opacity_fits, placed-no_column, placed-no_row, placed-shown, visible-is}
use Rattle.play_scene.proofs.composition.placed_pixel.Goals as goal

pub returns-in_default : goal.returns-in_default
returns-in_default c = λ pictures are.
    let layer = c.args.layer.now in
    let size = c.args.view.now.size in
    let fill = c.requires.range.fill in
    let clip = c.requires.range.clip in
    let across : visible_column size.width layer.fill layer.clip 0 c.args.x ≡ None =
    visible-is size.width layer.fill layer.clip 0 c.args.x c.visible_column-across.result fill.0 fill.2 clip.0 clip.2 c.visible_column-across.ensures.value
    ∙ c.in_default.is in
    c.transparent.ensures ∙ sym (placed-no_column size (placement_of layer) (raster_pixel pictures size layer) c.args.x c.args.y across)

pub returns-in_default-down : goal.returns-in_default-down
returns-in_default-down c = λ pictures are.
    let layer = c.args.layer.now in
    let size = c.args.view.now.size in
    let fill = c.requires.range.fill in
    let clip = c.requires.range.clip in
    let down : visible_column size.height layer.fill layer.clip 1 c.args.y ≡ None =
    visible-is size.height layer.fill layer.clip 1 c.args.y c.visible_column-down.result fill.1 fill.3 clip.1 clip.3 c.visible_column-down.ensures.value
    ∙ c.in_default-down.is in
    c.transparent-in_default-down.ensures
    ∙ sym (placed-no_row size (placement_of layer) (raster_pixel pictures size layer) c.args.x c.args.y down)

pub returns : goal.returns
returns c = λ pictures are.
    let layer = c.args.layer.now in
    let size = c.args.view.now.size in
    let fill = c.requires.range.fill in
    let clip = c.requires.range.clip in
    let across : visible_column size.width layer.fill layer.clip 0 c.args.x ≡ Some c.in-Some.column =
    visible-is size.width layer.fill layer.clip 0 c.args.x c.visible_column-across.result fill.0 fill.2 clip.0 clip.2 c.visible_column-across.ensures.value
    ∙ c.in-Some.is in
    let down : visible_column size.height layer.fill layer.clip 1 c.args.y ≡ Some c.in-Some-down.row =
    visible-is size.height layer.fill layer.clip 1 c.args.y c.visible_column-down.result fill.1 fill.3 clip.1 clip.3 c.visible_column-down.ensures.value
    ∙ c.in-Some-down.is in
    let opacity : to_z w64 (of_z w64 layer.opacity) ≡ layer.opacity = opacity_fits layer.opacity c.requires.range.opacity in
    c.fade.ensures
    ∙ (λ i. fade (c.raster_pixel-pixel.ensures pictures are i) (nat_abs (opacity i)))
    ∙ sym (placed-shown size (placement_of layer) (raster_pixel pictures size layer) c.args.x c.args.y c.in-Some.column c.in-Some-down.row across down)
