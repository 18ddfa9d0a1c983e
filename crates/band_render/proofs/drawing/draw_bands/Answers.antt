use Rattle.std.proofs.Common.{◌+◌, ◌-◌, ◌++◌, ◌<◌, ◌≤◌, List, length, take, sym, subst, ◌∙◌, arith}
use Rattle.std.proofs.lemmas.Slice.{take-put_mid}
use Rattle.band_render.specs.inner.Drawing.{AreDrawn}
use Rattle.band_render.specs.Rows.{Row, rows_of, rows_of_bands}
use Rattle.band_render.proofs.Bands.{bytes_taken, flat_map-take, rows_taken}
use Rattle.band_render.proofs.Drawn.{drawn_append, drawn_long}
use Rattle.band_render.proofs.LetIn.{let_in_more}
use Rattle.band_render.proofs.drawing.draw_bands.Goals as goal

pub overflow_add-end : goal.overflow_add-end
overflow_add-end g c =
    let at = c.loop-band.band-index in
    let sum = bytes_taken rows_of c.args.bands.now at c.band-item.result c.loop-band-test.true c.band-item.is in
    let most = rows_taken rows_of c.args.bands.now (at + 1) in
    omega (arith, c.loop-band.invariant.start, c.bytes_of_band.ensures, sum, most, c.requires.bytes, c.requires.small)

pub slice_bounds-draw_band-end : goal.slice_bounds-draw_band-end
slice_bounds-draw_band-end g c =
    let at = c.loop-band.band-index in
    let sum = bytes_taken rows_of c.args.bands.now at c.band-item.result c.loop-band-test.true c.band-item.is in
    let most = rows_taken rows_of c.args.bands.now (at + 1) in
    let fits : c.loop-band.start + c.bytes_of_band.result ≤ length c.loop-band.bytes =
    omega (arith, c.loop-band.invariant.start, c.bytes_of_band.ensures, sum, most, c.requires.bytes, c.loop-band.auto.bytes) in
    fits

pub loop-band-preserved : goal.loop-band-preserved
loop-band-preserved g c =
    let at = c.loop-band.band-index in
    let band = c.band-item.result in
    let tick = c.args.tick.now in
    let start = c.loop-band.start in
    let end = start + c.bytes_of_band.result in
    let out = c.draw_band.new.bytes in
    let lt : at < length c.args.bands.now = c.loop-band-test.true in
    let sum = bytes_taken rows_of c.args.bands.now at band lt c.band-item.is in
    let most = rows_taken rows_of c.args.bands.now (at + 1) in
    let long = drawn_long tick (rows_of band) out c.draw_band.ensures.drawn in
    record {
      entered = let_in_more (g.G.Gate.entered c.args.gate.now) c.args.bands.now at band lt c.band-item.is c.loop-band.invariant.entered c.draw_band.ensures.entered;
      start = omega (arith, c.loop-band.invariant.start, c.bytes_of_band.ensures, sum);
      drawn = subst (AreDrawn tick (rows_of_bands (take (at + 1) c.args.bands.now)))
          (sym (take-put_mid start (end - start) c.loop-band.bytes out end (omega (arith, long, c.bytes_of_band.ensures))
          (omega (arith, c.loop-band.invariant.start, sum, most, c.requires.bytes, c.loop-band.auto.bytes))))
          (subst (λ (rows : List Row). AreDrawn tick rows (take start c.loop-band.bytes ++ out))
          (sym (flat_map-take rows_of c.args.bands.now at band lt c.band-item.is))
          (drawn_append tick (rows_of_bands (take at c.args.bands.now)) (rows_of band) (take start c.loop-band.bytes) out
          c.loop-band.invariant.drawn c.draw_band.ensures.drawn));
      room = c.draw_band.ensures.room ∙ c.loop-band.invariant.room;
    }
