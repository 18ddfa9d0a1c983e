use Rattle.std.proofs.Common.{◌≡◌, ℕ, ◌+◌, ◌-◌, ◌*◌, ◌++◌, ◌≤◌, List, length, take, sym, subst, ap, ◌∙◌, arith}
use Rattle.std.proofs.lemmas.List.{take_all}
use Rattle.std.proofs.lemmas.Slice.{take-put_mid}
use Rattle.band_render.specs.inner.Drawing.{AreDrawn}
use Rattle.band_render.specs.Rows.{Row, rows_from}
use Rattle.band_render.proofs.Bands.{row_within}
use Rattle.band_render.proofs.Drawn.{drawn_append, drawn_long, drawn_row}
use Rattle.band_render.proofs.Rows.{byte_count-rows, rows_from-more}
use Rattle.band_render.proofs.drawing.draw_rows.Goals as goal

pub slice_bounds-row-end : goal.slice_bounds-row-end
slice_bounds-row-end g c =
    let band = c.args.let_in.now.band.now in
    let width = c.from-row_bytes.result in
    let counted = c.requires.bytes ∙ byte_count-rows band.channel band.size band.first band.rows in
    let whole : 4 * width * band.rows ≡ 4 * band.size.width * band.rows = ap (λ (w : ℕ). 4 * w * band.rows) c.from-row_bytes.ensures in
    let place : 4 * width * c.from.result ≡ 4 * width * c.loop-at.at = ap (λ (n : ℕ). 4 * width * n) c.from.ensures in
    let within = row_within width band.rows c.loop-at.at c.loop-at-test.true in
    let fits : 4 * width * c.from.result + 4 * width ≤ length c.loop-at.bytes =
    omega (arith, counted, whole, place, within, c.loop-at.auto.bytes) in
    fits

pub loop-at-preserved : goal.loop-at-preserved
loop-at-preserved g c =
    let band = c.args.let_in.now.band.now in
    let tick = c.args.tick.now in
    let at = c.loop-at.at in
    let width = c.from-row_bytes.result in
    let start = 4 * width * c.from.result in
    let out = c.render_row.new.out in
    let counted = c.requires.bytes ∙ byte_count-rows band.channel band.size band.first band.rows in
    let whole : 4 * width * band.rows ≡ 4 * band.size.width * band.rows = ap (λ (w : ℕ). 4 * w * band.rows) c.from-row_bytes.ensures in
    let place : start ≡ 4 * width * at = ap (λ (n : ℕ). 4 * width * n) c.from.ensures in
    let within = row_within width band.rows at c.loop-at-test.true in
    let row = drawn_row tick c.scene-scene.result.now band.channel band.size (band.first + at) out c.scene-scene.ensures.value
    c.render_row.ensures.picture c.render_row.ensures.pixels in
    let long = drawn_long tick (rows_from band.channel band.size (band.first + at) 1) out row
    ∙ byte_count-rows band.channel band.size (band.first + at) 1 in
    let product : 4 * width * (at + 1) ≡ 4 * width * at + 4 * width = grind arith in
    let one : 4 * band.size.width * 1 ≡ 4 * width = ap (λ (w : ℕ). 4 * w * 1) (sym c.from-row_bytes.ensures) ∙ grind arith in
    let above : AreDrawn tick (rows_from band.channel band.size band.first at) (take start c.loop-at.bytes) =
    subst (λ (k : ℕ). AreDrawn tick (rows_from band.channel band.size band.first at) (take k c.loop-at.bytes)) (sym place) c.loop-at.invariant.drawn in
    record {
      drawn = subst (AreDrawn tick (rows_from band.channel band.size band.first (at + 1)))
          (sym (take-put_mid start (start + 4 * width - start) c.loop-at.bytes out (4 * width * (at + 1)) (omega (arith, product, place, long, one))
          (omega (arith, counted, whole, place, within, c.loop-at.auto.bytes))))
          (subst (λ (rows : List Row). AreDrawn tick rows (take start c.loop-at.bytes ++ out))
          (sym (rows_from-more band.channel band.size band.first at 1))
          (drawn_append tick (rows_from band.channel band.size band.first at) (rows_from band.channel band.size (band.first + at) 1) (take start c.loop-at.bytes) out
          above row));
      room = c.render_row.ensures.room ∙ c.loop-at.invariant.room;
    }

pub returns-clause-drawn : goal.returns-clause-drawn
returns-clause-drawn g c =
    let band = c.args.let_in.now.band.now in
    let tick = c.args.tick.now in
    let at = c.loop-at.at in
    let width = c.from-row_bytes.result in
    let end : at ≡ band.rows = omega (arith, c.loop-at-test.false, c.loop-at.auto.at-end) in
    let counted = c.requires.bytes ∙ byte_count-rows band.channel band.size band.first band.rows in
    let whole : 4 * width * at ≡ 4 * band.size.width * band.rows = (λ i. 4 * c.from-row_bytes.ensures i * end i) in
    subst (λ (n : ℕ). AreDrawn tick (rows_from band.channel band.size band.first n) c.loop-at.bytes) end
    (subst (AreDrawn tick (rows_from band.channel band.size band.first at))
    (take_all (4 * width * at) c.loop-at.bytes (omega (arith, whole, counted, c.loop-at.auto.bytes)))
    c.loop-at.invariant.drawn)
