use Rattle.std.proofs.Common.{◌<◌, List, length, subst, sym, ◌∙◌}
use Rattle.play_types.specs.declared.drawn.Drawn.{Drawn}
use Rattle.play_types.specs.declared.place.TheConstants.{MAX_LIVE_LAYERS}
use Rattle.play_types.specs.Scene.{IsScene}
use Rattle.play_types.proofs.Layers.{scene_with_layer}
use Rattle.play_types.proofs.scene.Scene.push.Goals as goal

pub invariant_of-self : goal.invariant_of-self
invariant_of-self c =
    let layers = c.self.inside.layers.items in
    let room = subst (λ (drawn : List Drawn). length drawn < MAX_LIVE_LAYERS) (sym c.self.view_is) c.requires.room in (
      subst IsScene (sym c.push_reserved.ensures.items) (scene_with_layer layers c.args.drawn c.self.invariant.0 room c.requires.range),
      c.push_reserved.ensures.capacity ∙ c.self.invariant.1,
    )
