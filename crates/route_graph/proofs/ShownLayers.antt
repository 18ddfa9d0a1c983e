-- The layers of a channel, once one of them shows a picture.
use Rattle.std.proofs.Common.{◌≡◌, ℕ, zero, suc, ◌<◌, ◌≤◌, ◌≢◌, true, false, cond, eqb, List, [], ◌∷◌, ◌++◌, length, get_or, set, Option, Some, None, refl, sym, ap, ◌∙◌, arith, eq-eqb, ne_eqb}
use Rattle.std.specs.List.{position, position_or_len}
use Rattle.std.proofs.lemmas.Bool.{cond-true, cond-false}
use Rattle.std.proofs.lemmas.Bool.Decides.{nat_tests}
use Rattle.std.proofs.lemmas.List.Sums.{fails_before_first}
use Rattle.std.proofs.lemmas.List.Quantifiers.{position-Some}
use Rattle.play_types.specs.declared.take.Spec.{Spec}
use Rattle.play_types.specs.declared.take.Spec.TheVariants.{Colour}
use Rattle.route_graph.specs.Shown.{Picture, ShownLayers, shown_on, with_shown}

-- a layer with a picture, which no proof reads
abbrev none_at : ℕ × Picture
none_at = (0, (Colour 0, 0))

-- a layer that is in the list, at an index before which it is not
set-at : (layer : ℕ) (picture : Picture) (layers : ShownLayers) (at : ℕ) → at < length layers →
    eqb (get_or layers at none_at).0 layer ≡ true → ((k : ℕ) → k < at → eqb (get_or layers k none_at).0 layer ≡ false) →
    with_shown layer picture layers ≡ set layers at (layer, picture)
set-at layer picture [] at within here before = absurd (omega arith)
set-at layer picture (shown ∷ more) zero within here before =
    cond-true (eqb shown.0 layer) ((layer, picture) ∷ more) (shown ∷ with_shown layer picture more) here
set-at layer picture (shown ∷ more) (suc at) within here before =
    cond-false (eqb shown.0 layer) ((layer, picture) ∷ more) (shown ∷ with_shown layer picture more) (before 0 (omega arith))
    ∙ ap (λ rest. shown ∷ rest)
    (set-at layer picture more at (omega arith) here (λ k below. before (suc k) (omega arith)))

-- a layer that is not in the list
added : (layer : ℕ) (picture : Picture) (layers : ShownLayers) →
    ((k : ℕ) → k < length layers → eqb (get_or layers k none_at).0 layer ≡ false) →
    with_shown layer picture layers ≡ layers ++ (layer, picture) ∷ []
added layer picture [] absent = refl
added layer picture (shown ∷ more) absent =
    cond-false (eqb shown.0 layer) ((layer, picture) ∷ more) (shown ∷ with_shown layer picture more) (absent 0 (omega arith))
    ∙ ap (λ rest. shown ∷ rest) (added layer picture more (λ k below. absent (suc k) (omega arith)))

-- the list by the index that a search for the layer finds
pub with_shown-found : (layer : ℕ) (picture : Picture) (layers : ShownLayers) (at : ℕ) →
    position (λ (shown : ℕ × Picture). eqb shown.0 layer) layers ≡ Some at →
    with_shown layer picture layers ≡ set layers at (layer, picture)
with_shown-found layer picture layers at found =
    let here = position-Some (λ (shown : ℕ × Picture). eqb shown.0 layer) layers at none_at found in
    set-at layer picture layers at here.0 here.1 here.2

not_found : (layer : ℕ) (layers : ShownLayers) → position (λ (shown : ℕ × Picture). eqb shown.0 layer) layers ≡ None →
    length layers ≤ position_or_len (λ (shown : ℕ × Picture). eqb shown.0 layer) layers
not_found layer layers none = grind (arith, nat_tests)

pub with_shown-absent : (layer : ℕ) (picture : Picture) (layers : ShownLayers) →
    position (λ (shown : ℕ × Picture). eqb shown.0 layer) layers ≡ None →
    with_shown layer picture layers ≡ layers ++ (layer, picture) ∷ []
with_shown-absent layer picture layers none =
    let last = not_found layer layers none in
    added layer picture layers (λ k below. fails_before_first (λ (shown : ℕ × Picture). eqb shown.0 layer) layers k none_at (omega arith))

-- the layer shows the picture
pub shown_on-same : (layer : ℕ) (picture : Picture) (layers : ShownLayers) → shown_on (with_shown layer picture layers) layer ≡ Some picture
shown_on-same layer picture [] = grind (arith, nat_tests)
shown_on-same layer picture (shown ∷ more) = grind (arith, nat_tests, shown_on-same layer picture more)

-- the other layers show what they showed
pub shown_on-other : (layer : ℕ) (picture : Picture) (layers : ShownLayers) (other : ℕ) → other ≢ layer →
    shown_on (with_shown layer picture layers) other ≡ shown_on layers other
shown_on-other layer picture [] other differs = grind (arith, nat_tests)
shown_on-other layer picture (shown ∷ more) other differs = grind (arith, nat_tests, shown_on-other layer picture more other differs)

-- a layer that showed nothing is added
pub added-new : (layer : ℕ) (picture : Picture) (layers : ShownLayers) → shown_on layers layer ≡ None →
    with_shown layer picture layers ≡ layers ++ (layer, picture) ∷ []
added-new layer picture [] none = refl
added-new layer picture (shown ∷ more) none = grind (arith, nat_tests, added-new layer picture more)
