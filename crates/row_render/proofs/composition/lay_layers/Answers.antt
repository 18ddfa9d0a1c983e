use Rattle.std.proofs.Common.{◌≡◌, ℕ, ◌+◌, List, ◌∷◌, take, reverse, sym, ap, subst, ◌∙◌, arith}
use Rattle.std.proofs.lemmas.List.{take_all}
use Rattle.play_types.specs.declared.drawn.Drawn.{Drawn}
use Rattle.history_model.specs.pictures.Frame.{composed_pixel, layer_pixel}
use Rattle.lane_blend.specs.Rows.{IsRow, width_of}
use Rattle.row_render.specs.inner.Keying.{IsLaid, Keys}
use Rattle.row_render.proofs.Keying.{reverse-take}
use Rattle.row_render.proofs.composition.lay_layers.Goals as goal

pub loop-layer-preserved : goal.loop-layer-preserved
loop-layer-preserved c =
    let size = c.args.view.now.size in
    let layers = c.args.layers.now in
    let index = c.loop-layer.layer-index in
    let layer = c.layer-item.result in
    let below = reverse (take index layers) in
    let so_far = c.loop-layer.invariant in
    let more : layer ∷ below ≡ reverse (take (index + 1) layers) =
    sym (reverse-take layers index layer c.loop-layer-test.true ∙ ap (λ (l : Drawn). l ∷ below) (sym c.layer-item.is)) in
    record {
      shown = λ pictures are.
          subst (λ (all : List Drawn). IsLaid c.lay_layer-blank.result size.width (λ x. composed_pixel (layer_pixel pictures size x c.args.view.now.y) all) c.lay_layer-blank.new.row) more
          (c.lay_layer-blank.ensures.row pictures below are (so_far.keys pictures are) (so_far.shown pictures are));
      lowered = c.lay_layer-blank.ensures.lowered;
      keys = λ pictures are.
          subst (λ (all : List Drawn). Keys (λ (x : ℕ). layer_pixel pictures size x c.args.view.now.y) size.width all layer.keyer c.lay_layer-blank.new.keys) more
          (c.lay_layer-blank.ensures.keys pictures below are);
    }

pub returns-clause-row : goal.returns-clause-row
returns-clause-row c = λ pictures are.
    let size = c.args.view.now.size in
    let pixel = λ (layers : List Drawn) (x : ℕ). composed_pixel (layer_pixel pictures size x c.args.view.now.y) (reverse layers) in
    let all = take_all c.loop-layer.layer-index c.args.layers.now c.loop-layer-test.false in
    let blank = c.loop-layer.below.blank in
    let width : width_of c.loop-layer.row ≡ size.width = omega (arith, c.loop-layer.auto.row, c.requires.row) in
    let laid = subst (λ (layers : List Drawn). IsLaid blank size.width (pixel layers) c.loop-layer.row) all (c.loop-layer.invariant.shown pictures are) in
    subst (λ (n : ℕ). IsRow n (pixel c.args.layers.now) c.clear_blank.new.row) width
    (c.clear_blank.ensures.row (pixel c.args.layers.now) (subst (λ (n : ℕ). IsLaid blank n (pixel c.args.layers.now) c.loop-layer.row) (sym width) laid))
