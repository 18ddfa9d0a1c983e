-- Different numbers below a bound, as many as the bound, are all of them.
use Rattle.std.proofs.Common.{◌≡◌, ◌≢◌, ◌⊎◌, ℕ, zero, suc, ◌<◌, ◌≤◌, ◌||◌, Bool, true, false, eqb, List, [], ◌∷◌, length, ne_eqb, refl, sym, ap, ◌∙◌, subst, inl, inr, ⊎_elim, arith}
use Rattle.std.specs.List.{AllByRecursion, IsDistinct, list_any}
use mathlib.Core.Logic.{dite}
use mathlib.Core.Option.{some, some-injective, some-ne-none}
use native.Mathlib.Decide.{ℕ_discrete}
use lib.ListN.{get_elem?}
use Rattle.std.proofs.lemmas.Bool.Decides.{nat_tests}
use Rattle.std.proofs.lemmas.Map.Steps.{length-le_from_distinct_below}
use Rattle.stage_lock.proofs.Views.{off}

all_from : (P : ℕ → Type 0) (xs : List ℕ) → ((i x : ℕ) → get_elem? xs i ≡ some x → P x) → AllByRecursion P xs
all_from P [] h = tt
all_from P (x ∷ xs) h = (h 0 x refl, all_from P xs (λ i. h (suc i)))

distinct_from : (xs : List ℕ) → ((i j x : ℕ) → get_elem? xs i ≡ some x → get_elem? xs j ≡ some x → i ≡ j) → IsDistinct eqb xs
unfolding IsDistinct
distinct_from [] h = tt
distinct_from (x ∷ xs) h = (
  all_from (λ y. eqb x y ≡ false) xs (λ i y e. ne_eqb x y (λ same. let n : 0 ≡ suc i = h 0 (suc i) y (ap (λ (z : ℕ). some z) same) e in absurd (omega (arith, n)))),
  distinct_from xs (λ i j y e e'. let n : suc i ≡ suc j = h (suc i) (suc j) y e e' in omega (arith, n)),
)

any_at : (q : ℕ) (xs : List ℕ) → list_any (eqb q) xs ≡ true → (i : ℕ) × (get_elem? xs i ≡ some q)
any_at q [] h = off h
any_at q (x ∷ xs) h = go (eqb q x) refl h (λ t. any_at q xs t)
  where
    go : (b : Bool) → eqb q x ≡ b → (b || list_any (eqb q) xs) ≡ true → (list_any (eqb q) xs ≡ true → (i : ℕ) × (get_elem? xs i ≡ some q)) → (i : ℕ) × (get_elem? (x ∷ xs) i ≡ some q)
    go true is h rec = let same : x ≡ q = grind (arith, nat_tests) in (0, ap (λ (z : ℕ). some z) same)
    go false is h rec = let t = rec h in (suc t.0, t.1)

-- a number is in a list, or it is not
stands : (n : ℕ) (xs : List ℕ) → ((i : ℕ) × (get_elem? xs i ≡ some n)) ⊎ ((i x : ℕ) → get_elem? xs i ≡ some x → x ≢ n)
stands n [] = inr (λ i x e. absurd (some-ne-none x (sym e)))
stands n (x ∷ xs) =
    dite (ℕ_discrete x n)
    (λ same. inl (0, ap (λ (z : ℕ). some z) same))
    (λ other. ⊎_elim (λ (t : (i : ℕ) × (get_elem? xs i ≡ some n)). inl (suc t.0, t.1)) (λ (none_is : (i y : ℕ) → get_elem? xs i ≡ some y → y ≢ n). inr (not_there other none_is)) (stands n xs))
  where
    not_there : x ≢ n → ((i y : ℕ) → get_elem? xs i ≡ some y → y ≢ n) → (i y : ℕ) → get_elem? (x ∷ xs) i ≡ some y → y ≢ n
    not_there other none_is zero y e = λ same. other (some-injective x y e ∙ same)
    not_there other none_is (suc i) y e = none_is i y e

pub all_below : (xs : List ℕ) (n : ℕ) → ((i j x : ℕ) → get_elem? xs i ≡ some x → get_elem? xs j ≡ some x → i ≡ j) → ((i x : ℕ) → get_elem? xs i ≡ some x → x < length xs)
    → n < length xs → (i : ℕ) × (get_elem? xs i ≡ some n)
all_below xs n apart below lt =
    ⊎_elim
    (λ (t : (i : ℕ) × (get_elem? xs i ≡ some n)). t)
    (λ (none_is : (i x : ℕ) → get_elem? xs i ≡ some x → x ≢ n).
    let few : length (n ∷ xs) ≤ length xs = length-le_from_distinct_below (n ∷ xs) (length xs) (distinct_from (n ∷ xs) (both none_is)) (λ q h. let t = any_at q (n ∷ xs) h in bound t.0 q t.1) in
    absurd (omega arith))
    (stands n xs)
  where
    both : ((i x : ℕ) → get_elem? xs i ≡ some x → x ≢ n) → (i j x : ℕ) → get_elem? (n ∷ xs) i ≡ some x → get_elem? (n ∷ xs) j ≡ some x → i ≡ j
    both none_is zero zero x e e' = refl
    both none_is zero (suc j) x e e' = absurd (none_is j x e' (sym (some-injective n x e)))
    both none_is (suc i) zero x e e' = absurd (none_is i x e (sym (some-injective n x e')))
    both none_is (suc i) (suc j) x e e' = ap suc (apart i j x e e')

    bound : (i q : ℕ) → get_elem? (n ∷ xs) i ≡ some q → q < length xs
    bound zero q e = subst (λ (k : ℕ). k < length xs) (some-injective n q e) lt
    bound (suc i) q e = below i q e
