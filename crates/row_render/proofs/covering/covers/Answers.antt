use Rattle.std.proofs.Common.{rules, arith, ◌≡◌, ap, sym, ◌∙◌, pos, to_z, of_z, w64}
use Rattle.std.proofs.lemmas.Int.{ints}
use Rattle.pixel_math.specs.Pixel.{PixelView}
use Rattle.play_scene.proofs.Fills.{opacity_fits}
use Rattle.row_render.proofs.Covers.{opaque_layer}
use Rattle.row_render.proofs.covering.covers.Goals as goal

pub returns-clause-opaque : goal.returns-clause-opaque
returns-clause-opaque c = λ opaque pictures x lt.
    let layer = c.args.layer.now in
    let size = c.args.view.now.size in
    let opacity : to_z w64 (of_z w64 layer.opacity) ≡ layer.opacity = opacity_fits layer.opacity c.requires.range.opacity in
    let same = c.if-layer-ne-MICROS_PER_UNIT.false in
    let whole : layer.opacity ≡ pos 1000000 = first_of (search (rules, same), grind (arith, ints, same, opacity), cc) in
    let alpha : c.a.result ≡ 255 = first_of (search (rules, opaque), omega (arith, opaque), grind (arith, opaque)) in
    opaque_layer pictures size layer x c.args.view.now.y
    (c.keeps_columns.ensures c.if-not-keeps_columns.false size.width x lt)
    (c.keeps_rows.ensures c.if-not-keeps_rows.false size.height c.args.view.now.y c.requires.line)
    whole
    (omega (arith, c.if-layer-duration.false, c.duration.ensures.value))
    (ap (λ (p : PixelView). p.a) (sym c.plain_pixel.ensures) ∙ sym c.a.ensures.value ∙ alpha)
