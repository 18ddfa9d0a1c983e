-- The tokens of the items of a list, item by item.
use Rattle.std.proofs.Common.{◌≡◌, ℕ, zero, suc, ◌+◌, ◌≤◌, List, [], ◌∷◌, ◌++◌, length, take, refl, sym, ap, ◌∙◌, inl, inr, Result, Ok, Err, ne_eqb, arith, append_assoc, append-nil}
use Rattle.std.specs.Prelude.{Some, None, OnOk, slice_get}
use Rattle.std.specs.List.{enumerate_from, flat_map}
use Rattle.std.proofs.lemmas.Grind.{flat_map-append}
use Rattle.std.proofs.lemmas.List.{take_all, take_more}
use Rattle.std.proofs.lemmas.Option.{get_or_from_slice_get, none-some, slice_get_cases, slice_get_within}
use Rattle.play_types.specs.Words.{kind_text}
use Rattle.stage_core.specs.declared.seen.LayerView.{LayerView}
use Rattle.view_status.specs.Status.{transition_tokens}
use Rattle.view_status.specs.Tokens.{member, object, text, whole}

module _ {X : Type 0} {A : Type 0} (f : X → List A) (xs : List X) (at : ℕ) (before now : List A) (so_far : now ≡ before ++ flat_map f (take at xs)) where
  -- one item more was written
  pub one_written : (x : X) (after : List A) → slice_get xs at ≡ Some x → after ≡ now ++ f x → after ≡ before ++ flat_map f (take (at + 1) xs)
  one_written x after there written =
      let same : take (at + 1) xs ≡ take at xs ++ x ∷ [] =
      take_more xs at x (slice_get_within xs at x there) ∙ ap (λ (y : X). take at xs ++ y ∷ []) (get_or_from_slice_get xs at x x there) in
      written
      ∙ ap (λ (tokens : List A). tokens ++ f x) so_far
      ∙ append_assoc before (flat_map f (take at xs)) (f x)
      ∙ ap (λ (tokens : List A). before ++ (flat_map f (take at xs) ++ tokens)) (sym (append-nil (f x)))
      ∙ ap (λ (tokens : List A). before ++ tokens) (sym (flat_map-append f (take at xs) (x ∷ [])))
      ∙ ap (λ (some : List X). before ++ flat_map f some) (sym same)

  -- no item is left
  pub all_written : length xs ≤ at → now ≡ before ++ flat_map f xs
  all_written long = so_far ∙ ap (λ (some : List X). before ++ flat_map f some) (take_all at xs long)

-- there is no further item
pub none_further : {X : Type 0} (xs : List X) (at : ℕ) → slice_get xs at ≡ None → length xs ≤ at
none_further xs at none = elim (slice_get_cases xs at).1 [
  | inl (x, within, there, is) ↦ absurd (none-some x (sym none ∙ there))
  | inr (long, is) ↦ long
]

-- an item with its number
pub numbered : {X : Type 0} (xs : List X) (from at : ℕ) (x : X) → slice_get xs at ≡ Some x → slice_get (enumerate_from from xs) at ≡ Some (from + at, x)
numbered [] from at x there = absurd (cc)
numbered (y ∷ xs) from zero x there = let same : y ≡ x = cc in let number : from ≡ from + 0 = omega arith in cc
numbered (y ∷ xs) from (suc at) x there =
    let number : from + 1 + at ≡ from + suc at = omega arith in
    numbered xs (from + 1) at x there ∙ ap (λ (n : ℕ). Some (n, x)) number

-- these tokens were written after those of before
pub record Wrote {A : Type 0} (before now written : List A) : Type 0 where
  pub is : now ≡ before ++ written

pub first_piece : {A : Type 0} (before now piece : List A) → now ≡ before ++ piece → Wrote before now piece
first_piece before now piece is = record { is = is }

-- one more piece was written
pub then_piece : {A : Type 0} {before now written : List A} → Wrote before now written → (next piece : List A) → next ≡ now ++ piece
    → Wrote before next (written ++ piece)
then_piece {A} {before} {now} {written} so_far next piece more =
    record { is = more ∙ ap (λ (tokens : List A). tokens ++ piece) so_far.is ∙ append_assoc before written piece }

-- the last piece was written, and all of them are these tokens
pub last_piece : {E A : Type 0} {before now written : List A} (r : Result (Unit {0}) E) (tokens : List A) → Wrote before now written
    → (next piece : List A) → OnOk r (next ≡ now ++ piece) → written ++ piece ≡ tokens → OnOk r (next ≡ before ++ tokens)
last_piece {A = A} {before = before} (Ok done) tokens so_far next piece more same =
    (then_piece so_far next piece more).is ∙ ap (λ (all : List A). before ++ all) same
last_piece (Err e) tokens so_far next piece more same = tt

-- a transition that is not over
pub transition_going : (layer : LayerView) → (layer.step ≡ layer.trans.duration → ⊥)
    → object (member "kind" (text (kind_text layer.trans.kind)) ∷ member "step" (whole layer.step) ∷ member "duration" (whole layer.trans.duration) ∷ [])
    ≡ transition_tokens layer
transition_going layer going = rw (ne_eqb layer.step layer.trans.duration going) refl
