use Rattle.std.proofs.Common.{◌≤◌, ◌∷◌, ◌++◌, [], length, ap, sym, ◌∙◌, arith, length-append, set}
use Rattle.play_types.specs.declared.place.TheConstants.{MAX_LIVE_LAYERS}
use Rattle.route_graph.specs.Shown.{ShownLayers}
use Rattle.route_graph.proofs.ShownLayers.{with_shown-absent, with_shown-found}
use Rattle.route_graph.proofs.layers.LayerList.show.Goals as goal

pub push_reserved-requires : goal.push_reserved-requires
push_reserved-requires c =
    let items = c.self.inside.layers.items in
    let added = with_shown-absent c.args.layer c.args.picture c.args.self.now (sym c.in-None.ensures) in
    let few : length (c.args.self.now ++ (c.args.layer, c.args.picture) ∷ []) ≤ MAX_LIVE_LAYERS = rw added at c.requires in
    let same = ap (λ (layers : ShownLayers). length layers) c.self.view_is in
    omega (arith, few, same, length-append c.args.self.now ((c.args.layer, c.args.picture) ∷ []), c.self.invariant)

pub returns-in-Some : goal.returns-in-Some
returns-in-Some c =
    let at = c.in-Some.at in
    ap (λ (layers : ShownLayers). set layers at (c.args.layer, c.args.picture)) c.self.view_is
    ∙ sym (with_shown-found c.args.layer c.args.picture c.args.self.now at (sym c.in-Some.ensures))

pub returns-in-None : goal.returns-in-None
returns-in-None c =
    c.push_reserved.ensures.items
    ∙ ap (λ (layers : ShownLayers). layers ++ (c.args.layer, c.args.picture) ∷ []) c.self.view_is
    ∙ sym (with_shown-absent c.args.layer c.args.picture c.args.self.now (sym c.in-None.ensures))
