-- The last element of a list that passes a test.
use Rattle.std.proofs.Common.{◌≡◌, ◌+◌, ◌-◌, ◌<◌, Bool, true, false, cond, not, eqb, List, [], ◌∷◌, length, reverse, refl, ap, ◌∙◌, arith, inl, inr}
use Rattle.std.specs.List.{before_last, list_any, prefix_len, suffix_len}
use Rattle.std.proofs.Math.Numerals.{add-one}
use Rattle.std.proofs.lemmas.Bool.{cases_Bool, or_parts, eq-eqb, ne_eqb}
use Rattle.std.proofs.lemmas.List.{reverse-append, length-reverse}
use Rattle.std.proofs.lemmas.List.Folds.{prefix_len-append}

-- the elements that fail at the end of a list with one more before it
pub suffix_len-cons : {X : Type 0} (p : X → Bool) (x : X) (xs : List X)
    → suffix_len p (x ∷ xs) ≡ cond (eqb (suffix_len p xs) (length xs)) (length xs + prefix_len p (x ∷ [])) (suffix_len p xs)
suffix_len-cons p x xs =
    ap (prefix_len p) (reverse-append (x ∷ []) xs) ∙ rw (prefix_len-append p (reverse xs) (x ∷ []), length-reverse xs) refl

suffix_len_none : {X : Type 0} (p : X → Bool) (xs : List X) → list_any p xs ≡ false → suffix_len (λ x. not (p x)) xs ≡ length xs
suffix_len_none p [] h = refl
suffix_len_none p (x ∷ xs) h =
    let parts = or_parts (p x) (list_any p xs) h in
    let rest = suffix_len_none p xs parts.1 in
    rw (suffix_len-cons (λ y. not (p y)) x xs, eq-eqb (suffix_len (λ y. not (p y)) xs) (length xs) rest, parts.0) (omega arith)

suffix_len_some : {X : Type 0} (p : X → Bool) (xs : List X) → list_any p xs ≡ true → suffix_len (λ x. not (p x)) xs < length xs
suffix_len_some p [] h = cc
suffix_len_some p (x ∷ xs) h = elim (cases_Bool (list_any p xs)) [
  | inl later ↦
      let rest = suffix_len_some p xs later in
      rw (suffix_len-cons (λ y. not (p y)) x xs, ne_eqb (suffix_len (λ y. not (p y)) xs) (length xs) (λ e. absurd (omega arith))) (omega arith)
  | inr none ↦
      let rest = suffix_len_none p xs none in
      let here : p x ≡ true = elim (cases_Bool (p x)) [ inl passes ↦ passes | inr fails ↦ absurd (cc (rw (fails, none) at h)) ] in
      rw (suffix_len-cons (λ y. not (p y)) x xs, eq-eqb (suffix_len (λ y. not (p y)) xs) (length xs) rest, here) (omega arith)
]

-- the elements before the last one that passes, in a list with one more before it
pub before_last-cons : {X : Type 0} (p : X → Bool) (x : X) (xs : List X)
    → before_last p (x ∷ xs) ≡ cond (list_any p xs) (x ∷ before_last p xs) []
before_last-cons p x xs = elim (cases_Bool (list_any p xs)) [
  | inl later ↦
      let k = suffix_len (λ y. not (p y)) xs in
      let rest = suffix_len_some p xs later in
      let same : suffix_len (λ y. not (p y)) (x ∷ xs) ≡ k =
      rw (suffix_len-cons (λ y. not (p y)) x xs, ne_eqb k (length xs) (λ e. absurd (omega arith))) refl in
      let cut : length (x ∷ xs) - k - 1 ≡ (length xs - k - 1) + 1 = omega arith in
      rw (same, cut, add-one (length xs - k - 1), later) refl
  | inr none ↦
      let rest = suffix_len_none p xs none in
      let whole : length (x ∷ xs) - suffix_len (λ y. not (p y)) (x ∷ xs) - 1 ≡ 0 =
      rw (suffix_len-cons (λ y. not (p y)) x xs, eq-eqb (suffix_len (λ y. not (p y)) xs) (length xs) rest) (omega arith) in
      rw (whole, none) refl
]
