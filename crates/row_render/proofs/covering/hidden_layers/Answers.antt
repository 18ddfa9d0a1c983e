use Rattle.std.proofs.Common.{◌≡◌, ℕ, ◌<◌, ◌≤◌, length, drop, reverse, sym, ap, subst, ◌∙◌, arith}
use Rattle.history_model.specs.pictures.Raster.{Pictures}
use Rattle.history_model.specs.pictures.Frame.{composed_pixel, layer_pixel, scene_pixel}
use Rattle.row_render.proofs.Covers.{composed-from, is_keyed}
use Rattle.row_render.proofs.Keying.{reverse-take}
use Rattle.row_render.proofs.covering.hidden_layers.Goals as goal
use Rattle.row_render.proofs.covering.hidden_layers.Goals.{then-covers, else-covers}

pub layers-preserved : goal.layers-preserved
layers-preserved c =
    let size = c.args.view.now.size in
    let y = c.args.view.now.y in
    let layers = c.args.layers.now in
    let at = c.layers.at in
    let so_far = c.layers.invariant in
    let below = c.layers-test.true in
    let seen = λ (pictures : Pictures) (x hidden : ℕ). composed_pixel (layer_pixel pictures size x y) (reverse (drop hidden layers)) ≡ scene_pixel pictures size layers x y in
    let value : (pictures : Pictures) (x : ℕ) → x < size.width → seen pictures x c.if-covers.hidden = elim c.if-covers.branch [
      | then-covers w ↦ λ pictures x lt.
          (let covers = w.if-covers.true in
          subst (seen pictures x) (sym w.hidden-is)
          (composed-from (layer_pixel pictures size x y) layers at c.index-layers-at.result below c.index-layers-at.is
          (c.covers.ensures.shown covers) (sym so_far.keyed ∙ c.covers.ensures.alone covers) (c.covers.ensures.opaque covers pictures x lt)))
      | else-covers w ↦ λ pictures x lt. subst (seen pictures x) (sym w.hidden-is) (so_far.value pictures x lt)
    ] in
    let range : c.if-covers.hidden ≤ length layers = elim c.if-covers.branch [
      | then-covers w ↦ omega (arith, w.hidden-is, below)
      | else-covers w ↦ omega (arith, w.hidden-is, so_far.range)
    ] in
    record {
      value = λ pictures x lt. value pictures x lt;
      keyed = sym (ap is_keyed (reverse-take layers at c.index-layers-at-in-layers.result below));
      range = range;
    }
