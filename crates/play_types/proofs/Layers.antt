-- A layer above the others of a scene.
use Rattle.std.proofs.Common.{◌≡◌, ℕ, ◌-◌, ◌<◌, List, [], ◌∷◌, ◌++◌, length, sym, subst, arith, length-append, length-set}
use Rattle.std.specs.Prelude.{All}
use Rattle.std.proofs.lemmas.List.Elements.{All-get_or, All-push, All-set}
use Rattle.play_types.specs.declared.place.TheConstants.{MAX_LIVE_LAYERS}
use Rattle.play_types.specs.declared.drawn.Drawn.{Drawn}
use Rattle.play_types.specs.Scene.{AreScenes, IsConfigured, IsDrawn, IsScene, NamesConfigured, scene_at, with_layer}

-- a scene with fewer than the most layers may have one more
pub scene_with_layer : (layers : List Drawn) (drawn : Drawn) → IsScene layers → length layers < MAX_LIVE_LAYERS → IsDrawn drawn →
    IsScene (layers ++ drawn ∷ [])
scene_with_layer layers drawn scene room range = record {
  few = omega (arith, room, length-append layers (drawn ∷ []));
  each = All-push IsDrawn layers drawn scene.each range;
}

-- scenes may have one more layer that names configured channels
pub scenes_with_layer : (channel : ℕ) (drawn : Drawn) (scenes : List (List Drawn)) → AreScenes scenes → IsConfigured (length scenes) channel →
    NamesConfigured (length scenes) drawn → AreScenes (with_layer channel drawn scenes)
scenes_with_layer channel drawn scenes are configured names =
    let at = channel - 1 in
    let layers = scene_at channel scenes in
    let same : length (with_layer channel drawn scenes) ≡ length scenes = length-set scenes at (layers ++ drawn ∷ []) in
    let within : at < length scenes = omega (arith, configured.0, configured.1) in
    let named : All (NamesConfigured (length scenes)) (layers ++ drawn ∷ []) =
    All-push (NamesConfigured (length scenes)) layers drawn (All-get_or (All (NamesConfigured (length scenes))) scenes at [] within are.names) names in
    record {
      some_channels = omega (arith, same, are.some_channels);
      channels = omega (arith, same, are.channels);
      names = subst (λ (n : ℕ). All (All (NamesConfigured n)) (with_layer channel drawn scenes)) (sym same)
          (All-set (All (NamesConfigured (length scenes))) scenes at (layers ++ drawn ∷ []) named are.names);
    }
