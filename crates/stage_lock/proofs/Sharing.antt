-- The passes of a stage that was just shared.
use Rattle.std.proofs.Common.{zero, suc, arith, ◌≡◌, ℕ, ◌+◌, List, [], ◌∷◌, ◌++◌, length, map, refl, sym, ap, ◌∙◌, ⊎_elim}
use Rattle.std.specs.List.{range_with_len}
use mathlib.Core.Option.{some, some-injective}
use lib.ListN.{get_elem?}
use Rattle.stage_lock.specs.Views.{PassView, SharedView}
use Rattle.stage_lock.specs.Calls.{new_pass, new_passes}
use Rattle.stage_lock.specs.Steps.{AreEnrolled}
use Rattle.stage_lock.proofs.Views.{at_new}

pub enrolled_more : (stage : SharedView) (n : ℕ) (ps : List PassView) (p : PassView) → AreEnrolled stage ps → length ps + 1 ≡ n → p ≡ new_pass stage n → AreEnrolled stage (ps ++ p ∷ [])
enrolled_more stage n ps p all count is k q at =
    ⊎_elim
    (λ (old : get_elem? ps k ≡ some q). all k q old)
    (λ (new : (k ≡ length ps) × (p ≡ q)). let m : n ≡ suc k = omega (arith, new.0) in sym new.1 ∙ (is ∙ ap (λ (i : ℕ). new_pass stage i) m))
    (at_new ps p q k at)

-- a list whose elements are given by their places
from_places : {A : Type 0} (f : ℕ → A) (k : ℕ) (xs : List A) → ((i : ℕ) (a : A) → get_elem? xs i ≡ some a → a ≡ f (k + i)) → xs ≡ map f (range_with_len k (length xs))
from_places f k [] h = refl
from_places f k (x ∷ xs) h =
    let z : k + 0 ≡ k = omega arith in
    let head : x ≡ f k = h 0 x refl ∙ ap f z in
    let tail : xs ≡ map f (range_with_len (k + 1) (length xs)) = from_places f (k + 1) xs (λ i a e. let n : k + suc i ≡ k + 1 + i = omega arith in h (suc i) a e ∙ ap f n) in
    λ i. head i ∷ tail i

pub all_enrolled : (stage : SharedView) (ps : List PassView) (p : PassView) → AreEnrolled stage ps → length ps + 1 ≡ stage.sizes.passes → p ≡ new_pass stage 0 → p ∷ ps ≡ new_passes stage
all_enrolled stage ps p all count is =
    let n : suc (length ps) ≡ stage.sizes.passes = omega (arith, count) in
    from_places (new_pass stage) 0 (p ∷ ps) at ∙ ap (λ (k : ℕ). map (new_pass stage) (range_with_len 0 k)) n
  where
    at : (i : ℕ) (a : PassView) → get_elem? (p ∷ ps) i ≡ some a → a ≡ new_pass stage (0 + i)
    at zero a e = sym (some-injective p a e) ∙ is
    at (suc i) a e = let n : suc i ≡ 0 + suc i = omega arith in all i a e ∙ ap (λ (k : ℕ). new_pass stage k) n
