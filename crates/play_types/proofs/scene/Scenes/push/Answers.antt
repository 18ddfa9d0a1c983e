use Rattle.std.proofs.Common.{◌≡◌, ◌<◌, ◌-◌, ◌++◌, ◌∷◌, [], List, length, get_or, set, subst, sym, ap, ◌∙◌, arith}
use Rattle.std.proofs.lemmas.List.{get_or_default}
use Rattle.play_types.specs.declared.drawn.Drawn.{Drawn}
use Rattle.play_types.specs.Scene.{AreScenes, IsConfigured, NamesConfigured, scene_at, with_layer}
use Rattle.play_types.proofs.Layers.{scenes_with_layer}
use Rattle.play_types.proofs.scene.Scenes.push.Goals as goal

pub invariant_of-self : goal.invariant_of-self
invariant_of-self c =
    let scenes = c.self.inside.scenes.items in
    let channel = c.args.channel in
    let configured = subst (λ (s : List (List Drawn)). IsConfigured (length s) channel) (sym c.self.view_is) c.requires.channel in
    let names = subst (λ (s : List (List Drawn)). NamesConfigured (length s) c.args.drawn) (sym c.self.view_is) c.requires.names in
    let within : channel - 1 < length scenes = omega (arith, configured.0, configured.1) in
    let layers : c.index_mut.result.now ≡ scene_at channel scenes =
    c.index_mut.ensures.value ∙ ap (λ n. get_or scenes n c.index_mut.result.now) c.channel_index.ensures
    ∙ get_or_default scenes (channel - 1) c.index_mut.result.now [] within in
    let after : set scenes c.channel_index.result c.push.new.self ≡ with_layer channel c.args.drawn scenes =
    ap (λ n. set scenes n c.push.new.self) c.channel_index.ensures
    ∙ ap (λ xs. set scenes (channel - 1) xs) (c.push.ensures ∙ ap (λ xs. xs ++ c.args.drawn ∷ []) layers) in
    subst AreScenes (sym after) (scenes_with_layer channel c.args.drawn scenes c.self.invariant configured names)
