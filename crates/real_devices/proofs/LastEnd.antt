-- The last element of a list that passes a test, found from the end.
use Rattle.std.proofs.Common.{◌≡◌, ℕ, ◌<◌, Bool, true, false, ◌||◌, List, [], ◌∷◌, not, ◌-◌, ◌+◌, take, drop, length, reverse, refl, ap, sym, ◌∙◌, arith, inl, inr}
use Rattle.std.specs.Prelude.{Some, None, nat_lt}
use Rattle.std.specs.List.{list_any, position, position_or_len, suffix_len, before_last, after_last}
use Rattle.std.proofs.lemmas.Bool.{cases_Bool, false_from_ne_true, cond-true, lt-ltb}
use Rattle.std.proofs.lemmas.List.{reverse-append, length-reverse, length-drop, take_all}
use Rattle.std.proofs.lemmas.List.Folds.{list_any-append, list_any_at}
use Rattle.std.proofs.lemmas.List.Quantifiers.{position-Some}

-- a list has an element that passes exactly if its reverse has
pub list_any-reverse : {X : Type 0} (p : X → Bool) (xs : List X) → list_any p (reverse xs) ≡ list_any p xs
list_any-reverse p [] = refl
list_any-reverse p (x ∷ xs) =
    ap (list_any p) (reverse-append (x ∷ []) xs) ∙ list_any-append p (reverse xs) (x ∷ []) ∙ ap (λ b. b || list_any p (x ∷ [])) (list_any-reverse p xs)
    ∙ elim (cases_Bool (p x)) [
      | inl passes ↦ rw passes (elim (cases_Bool (list_any p xs)) [ inl some ↦ rw some refl | inr rest ↦ rw rest refl ])
      | inr fails ↦ rw fails (elim (cases_Bool (list_any p xs)) [ inl some ↦ rw some refl | inr rest ↦ rw rest refl ])
    ]

position_or_len_some : {X : Type 0} (p : X → Bool) (xs : List X) → list_any p xs ≡ true → position_or_len p xs < length xs
position_or_len_some p [] h = cc
position_or_len_some p (x ∷ xs) h = elim (cases_Bool (p x)) [
  | inl passes ↦ rw passes (omega arith)
  | inr fails ↦
      let rest = position_or_len_some p xs (rw fails at h) in
      rw fails (omega arith)
]

-- if none is found from the end, no element passes
pub none_from_end : {X : Type 0} (p : X → Bool) (xs : List X) → position p (reverse xs) ≡ None → list_any p xs ≡ false
none_from_end p xs h =
    false_from_ne_true (list_any p xs) (λ e.
    let found = position_or_len_some p (reverse xs) (list_any-reverse p xs ∙ e) in
    cc (cond-true (nat_lt (position_or_len p (reverse xs)) (length (reverse xs))) (Some (position_or_len p (reverse xs))) None (lt-ltb _ _ found), h))

-- if one is found from the end, an element passes
pub some_from_end : {X : Type 0} (p : X → Bool) (xs : List X) (at : ℕ) (d : X) → position p (reverse xs) ≡ Some at → list_any p xs ≡ true
some_from_end p xs at d h =
    let found = position-Some p (reverse xs) at d h in
    sym (list_any-reverse p xs) ∙ list_any_at p (reverse xs) at d found.0 found.1

-- it is found after as many elements as come after the last that passes
pub at_from_end : {X : Type 0} (p : X → Bool) (xs : List X) (at : ℕ) (d : X) → position p (reverse xs) ≡ Some at
    → (at ≡ suffix_len (λ x. not (p x)) xs) × (at < length xs)
at_from_end p xs at d h =
    let found = position-Some p (reverse xs) at d h in
    let some = position_or_len_some p (reverse xs) (list_any-reverse p xs ∙ some_from_end p xs at d h) in
    let is = cond-true (nat_lt (position_or_len p (reverse xs)) (length (reverse xs))) (Some (position_or_len p (reverse xs))) None (lt-ltb _ _ some) in
    (cc (is, h), omega (arith, length-reverse xs, found.0))

-- the elements before it are those before the last that passes
pub before_from_end : {X : Type 0} (p : X → Bool) (xs : List X) (at : ℕ) (d : X) → position p (reverse xs) ≡ Some at
    → take (length xs - 1 - at) xs ≡ before_last p xs
before_from_end p xs at d h =
    let found = at_from_end p xs at d h in
    ap (λ (n : ℕ). take n xs) (omega (arith, found.0, found.1))

-- and those after it are those after the last that passes
pub after_from_end : {X : Type 0} (p : X → Bool) (xs : List X) (at : ℕ) (d : X) → position p (reverse xs) ≡ Some at
    → take (length xs - (length xs - 1 - at + 1)) (drop (length xs - 1 - at + 1) xs) ≡ after_last p xs
after_from_end p xs at d h =
    let found = at_from_end p xs at d h in
    take_all _ _ (omega (arith, length-drop (length xs - 1 - at + 1) xs)) ∙ ap (λ (n : ℕ). drop n xs) (omega (arith, found.0, found.1))
