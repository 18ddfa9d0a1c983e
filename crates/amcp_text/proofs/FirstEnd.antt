-- The first element of a list that passes a test.
use Rattle.std.proofs.Common.{◌≡◌, ℕ, ◌+◌, ◌<◌, suc, Bool, true, false, List, [], ◌∷◌, ◌++◌, take, length, refl, ap, arith, inl, inr}
use Rattle.std.specs.Prelude.{Some, None, nat_lt}
use Rattle.std.specs.List.{before_first, after_first, position, position_or_len, list_any}
use Rattle.std.proofs.Math.Numerals.{one-add}
use Rattle.std.proofs.lemmas.Bool.{or_parts, cases_Bool, false_from_ne_true, cond-true, lt-ltb}
use Rattle.std.proofs.lemmas.List.{take_all, drop_all, take_at, drop_at, drop-drop, length-take, get_or-take}
use Rattle.std.proofs.lemmas.List.Folds.{list_any_none}
use Rattle.std.proofs.lemmas.List.Quantifiers.{position-Some}

-- if no element passes, the position of the first that does is the length of the list
pub position_or_len_none : {X : Type 0} (p : X → Bool) (xs : List X) → list_any p xs ≡ false → position_or_len p xs ≡ length xs
position_or_len_none p [] h = refl
position_or_len_none p (x ∷ xs) h =
    let parts = or_parts (p x) (list_any p xs) h in
    rw parts.0 (omega (arith, position_or_len_none p xs parts.1))

pub position_or_len_at : {X : Type 0} (p : X → Bool) (xs : List X) (y : X) (ys : List X) → list_any p xs ≡ false → p y ≡ true
    → position_or_len p (xs ++ y ∷ ys) ≡ length xs
position_or_len_at p [] y ys h passes = rw passes refl
position_or_len_at p (x ∷ xs) y ys h passes =
    let parts = or_parts (p x) (list_any p xs) h in
    rw parts.0 (omega (arith, position_or_len_at p xs y ys parts.1 passes))

pub before_first_none : {X : Type 0} (p : X → Bool) (xs : List X) → list_any p xs ≡ false → before_first p xs ≡ xs
before_first_none p xs h = rw (position_or_len_none p xs h) (take_all (length xs) xs (omega arith))

pub after_first_none : {X : Type 0} (p : X → Bool) (xs : List X) → list_any p xs ≡ false → after_first p xs ≡ []
after_first_none p xs h = rw (position_or_len_none p xs h) (drop_all (length xs + 1) xs (omega arith))

pub before_first_at : {X : Type 0} (p : X → Bool) (xs : List X) (y : X) (ys : List X) → list_any p xs ≡ false → p y ≡ true
    → before_first p (xs ++ y ∷ ys) ≡ xs
before_first_at p xs y ys h passes =
    rw (position_or_len_at p xs y ys h passes) (take_at xs (y ∷ ys) (length xs) refl)

pub after_first_at : {X : Type 0} (p : X → Bool) (xs : List X) (y : X) (ys : List X) → list_any p xs ≡ false → p y ≡ true
    → after_first p (xs ++ y ∷ ys) ≡ ys
after_first_at p xs y ys h passes =
    rw (position_or_len_at p xs y ys h passes) (rw (← drop-drop 1 (length xs) (xs ++ y ∷ ys), drop_at xs (y ∷ ys) (length xs) refl) refl)

pub list_any-before_first : {X : Type 0} (p : X → Bool) (xs : List X) → list_any p (before_first p xs) ≡ false
list_any-before_first p [] = refl
list_any-before_first p (x ∷ xs) = elim (cases_Bool (p x)) [
  | inl passes ↦ rw passes refl
  | inr fails ↦ rw (fails, one-add (position_or_len p xs), fails) (list_any-before_first p xs)
]

-- a list with an element that passes, cut at the first of them
pub record Cut {X : Type 0} (p : X → Bool) (xs : List X) : Type 0 where
  pub at : X
  pub passes : p at ≡ true
  pub whole : xs ≡ before_first p xs ++ at ∷ after_first p xs

pub cut_at_first : {X : Type 0} (p : X → Bool) (xs : List X) → list_any p xs ≡ true → Cut p xs
cut_at_first p [] h = cc
cut_at_first p (x ∷ xs) h = elim (cases_Bool (p x)) [
  | inl passes ↦ record { at = x; passes = passes; whole = rw passes refl }
  | inr fails ↦
      let rest = cut_at_first p xs (rw fails at h) in
      let next : suc (position_or_len p xs) + 1 ≡ suc (position_or_len p xs + 1) = omega arith in
      record { at = rest.at; passes = rest.passes; whole = rw (fails, one-add (position_or_len p xs), next) (ap (λ ys. x ∷ ys) rest.whole) }
]

pub position_or_len_some : {X : Type 0} (p : X → Bool) (xs : List X) → list_any p xs ≡ true → position_or_len p xs < length xs
position_or_len_some p [] h = cc
position_or_len_some p (x ∷ xs) h = elim (cases_Bool (p x)) [
  | inl passes ↦ rw passes (omega arith)
  | inr fails ↦
      let rest = position_or_len_some p xs (rw fails at h) in
      rw fails (omega arith)
]

-- if there is no first position, no element passes
pub list_any_from_position : {X : Type 0} (p : X → Bool) (xs : List X) → position p xs ≡ None → list_any p xs ≡ false
list_any_from_position p xs h = false_from_ne_true (list_any p xs) (λ e. cc (cond-true (nat_lt (position_or_len p xs) (length xs)) (Some (position_or_len p xs)) None (lt-ltb (position_or_len p xs) (length xs) (position_or_len_some p xs e)), h))

-- before the first position no element passes
pub list_any-take_position : {X : Type 0} (p : X → Bool) (xs : List X) (at : ℕ) → position p xs ≡ Some at → list_any p (take at xs) ≡ false
list_any-take_position p xs at h =
    list_any_none p (take at xs) (λ k d below.
    let inside : k < at = omega (arith, length-take at xs) in
    rw (get_or-take at xs k d inside) ((position-Some p xs at d h).2 k inside))
