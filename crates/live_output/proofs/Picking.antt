-- Lists from which some items are left out.
use Rattle.std.proofs.Common.{◌∙◌, ℕ, ◌≤◌, List, [], ◌∷◌, ◌++◌, length, refl, arith, inl, inr, take, drop, subst}
use Rattle.std.proofs.lemmas.List.{append-nil, take-append-drop}
use Rattle.live_output.specs.Picked.{IsPickedFrom}

-- one item more may be left out before the others
pub picked_past : {X : Type 0} (y : X) (xs ys : List X) → IsPickedFrom xs ys → IsPickedFrom xs (y ∷ ys)
picked_past y [] ys p = tt
picked_past y (x ∷ xs) ys p = inr p

-- what is picked from two lists is picked from both, one after the other
pub picked_both : {X : Type 0} (xs ys us vs : List X) → IsPickedFrom xs ys → IsPickedFrom us vs → IsPickedFrom (xs ++ us) (ys ++ vs)
picked_both [] [] us vs p q = q
picked_both [] (y ∷ ys) us vs p q = picked_past y us (ys ++ vs) (picked_both [] ys us vs tt q)
picked_both (x ∷ xs) [] us vs p q = absurd p
picked_both (x ∷ xs) (y ∷ ys) us vs p q = elim p [
  | inl same ↦ inl (same.0, picked_both xs ys us vs same.1 q)
  | inr past ↦ inr (picked_both (x ∷ xs) ys us vs past q)
]

-- one more item, which is picked
pub picked_more : {X : Type 0} (xs ys : List X) (y : X) → IsPickedFrom xs ys → IsPickedFrom (xs ++ y ∷ []) (ys ++ y ∷ [])
picked_more xs ys y p = picked_both xs ys (y ∷ []) (y ∷ []) p (inl (refl, tt))

-- one more item, which is left out
pub picked_less : {X : Type 0} (xs ys : List X) (y : X) → IsPickedFrom xs ys → IsPickedFrom xs (ys ++ y ∷ [])
picked_less [] ys y p = tt
picked_less (x ∷ xs) [] y p = absurd p
picked_less (x ∷ xs) (z ∷ ys) y p = elim p [
  | inl same ↦ inl (same.0, picked_less xs ys y same.1)
  | inr past ↦ inr (picked_less (x ∷ xs) ys y past)
]

-- no more items are picked than there are
pub picked_count : {X : Type 0} (xs ys : List X) → IsPickedFrom xs ys → length xs ≤ length ys
picked_count [] ys p = omega arith
picked_count (x ∷ xs) [] p = absurd p
picked_count (x ∷ xs) (y ∷ ys) p = elim p [
  | inl same ↦ let rest = picked_count xs ys same.1 in omega (arith, rest)
  | inr past ↦ let rest = picked_count (x ∷ xs) ys past in omega (arith, rest)
]

-- what is picked from a picked list is picked from the whole list
pub picked_again : {X : Type 0} (xs ys zs : List X) → IsPickedFrom xs ys → IsPickedFrom ys zs → IsPickedFrom xs zs
picked_again [] ys zs p q = tt
picked_again (x ∷ xs) [] zs p q = absurd p
picked_again (x ∷ xs) (y ∷ ys) [] p q = absurd q
picked_again (x ∷ xs) (y ∷ ys) (z ∷ zs) p q = elim q [
  | inl same ↦ elim p [
    | inl first ↦ inl (first.0 ∙ same.0, picked_again xs ys zs first.1 same.1)
    | inr past ↦ inr (picked_again (x ∷ xs) ys zs past same.1)
  ]
  | inr past ↦ inr (picked_again (x ∷ xs) (y ∷ ys) zs p past)
]

-- what is picked from the front of a list is picked from it
pub picked_front : {X : Type 0} (n : ℕ) (xs ys : List X) → IsPickedFrom xs (take n ys) → IsPickedFrom xs ys
picked_front {X} n xs ys p =
    subst (IsPickedFrom xs) (take-append-drop n ys) (subst (λ (l : List X). IsPickedFrom l (take n ys ++ drop n ys)) (append-nil xs) (picked_both xs (take n ys) [] (drop n ys) p tt))

-- what is picked from the end of a list is picked from it
pub picked_end : {X : Type 0} (n : ℕ) (xs ys : List X) → IsPickedFrom xs (drop n ys) → IsPickedFrom xs ys
picked_end n xs ys p = subst (IsPickedFrom xs) (take-append-drop n ys) (picked_both [] (take n ys) xs (drop n ys) tt p)
