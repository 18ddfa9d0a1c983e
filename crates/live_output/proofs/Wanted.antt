-- Frames that some reader has not begun.
use Rattle.std.proofs.Common.{◌≡◌, ◌<◌, ◌≤◌, ◌+◌, ◌⊎◌, ℕ, List, [], ◌∷◌, ◌++◌, length, min, arith, inl, inr, ap, subst, sym}
use Rattle.std.specs.Prelude.{All, Any, get_or, slice_set}
use Rattle.std.specs.List.{remove}
use Rattle.std.proofs.lemmas.Bool.{cases_lt}
use Rattle.std.proofs.lemmas.Grind.{common_steps}
use Rattle.std.proofs.lemmas.List.{length-drop}
use Rattle.std.proofs.lemmas.List.Elements.{All-set}
use Rattle.std.proofs.lemmas.List.Edits.{get_or-remove_below, get_or-remove_above, length-remove}
use Rattle.live_output.specs.Last.{AreLast}
use Rattle.live_output.specs.declared.reader.Reader.{Reader}

-- if some item satisfies a predicate, some item does after one more is added
pub any_more : {X : Type 0} (P : X → Type 0) (xs : List X) (y : X) → Any P xs → Any P (xs ++ y ∷ [])
any_more P xs y h = (h.0, h.1, grind (arith, common_steps, h.2), grind (arith, common_steps, h.2, h.3), h.4)

-- if all items satisfy a predicate, those that are left after a removal do
pub all_removed : {X : Type 0} (P : X → Type 0) (xs : List X) (n : ℕ) → n < length xs → All P xs → All P (remove xs n)
all_removed P xs n l all k d inside =
    let long = length-remove xs n l in
    elim (cases_lt k n) [
      | inl below ↦ rw (get_or-remove_below xs n d k below l) (all k d (omega (arith, below, l)))
      | inr above ↦ rw (get_or-remove_above xs n d k above l) (all (k + 1) d (omega (arith, above, l, long, inside)))
    ]

module _ {W : Type 0} where
  -- the least position is still at most that of each reader after one more reader is looked at
  pub all_up_to : (xs : List (Reader W)) (i first least : ℕ) (reader : Reader W) → i < length xs → reader ≡ get_or xs i reader → least ≡ min first reader.next
      → ((k : ℕ) (d : Reader W) → k < i → first ≤ (get_or xs k d).next) → (k : ℕ) (d : Reader W) → k < i + 1 → least ≤ (get_or xs k d).next
  all_up_to xs i first least reader inside is at all k d until =
      elim (cases_lt k i) [
        | inl below ↦ let before = all k d below in omega (arith, before, at)
        | inr above ↦
            let same : k ≡ i = omega (arith, above, until) in
            let it : get_or xs k d ≡ reader = grind (arith, common_steps, same, is, inside) in
            let next : (get_or xs k d).next ≡ reader.next = ap (λ (r : Reader W). r.next) it in omega (arith, next, at)
      ]

  -- the least position is still that of a reader, or the number of the next frame to come
  pub one_up_to : (xs : List (Reader W)) (i first least count : ℕ) (reader : Reader W) → i < length xs → reader ≡ get_or xs i reader → least ≡ min first reader.next
      → (first ≡ count) ⊎ Any (λ (r : Reader W). r.next ≤ first) xs → (least ≡ count) ⊎ Any (λ (r : Reader W). r.next ≤ least) xs
  one_up_to xs i first least count reader inside is at one =
      elim (cases_lt first reader.next) [
        | inl less ↦
            let same : least ≡ first = omega (arith, less, at) in
            subst (λ (n : ℕ). (n ≡ count) ⊎ Any (λ (r : Reader W). r.next ≤ n) xs) (sym same) one
        | inr more ↦ inr (i, reader, inside, sym is, omega (arith, more, at))
      ]

  -- some reader has not begun a frame that is still in the window
  pub held_wanted : (xs : List (Reader W)) (frames came : List (List ℕ)) (gone first count number : ℕ) → AreLast frames gone came → length came ≡ count
      → (first ≡ count) ⊎ Any (λ (r : Reader W). r.next ≤ first) xs → (first ≤ gone) ⊎ (frames ≡ []) → gone ≤ number → number < gone + length frames
      → Any (λ (r : Reader W). r.next ≤ number) xs
  held_wanted xs frames came gone first count number last long one done since until =
      let all : gone + length frames ≡ count = omega (arith, last.some, ap length last.rest, length-drop gone came, long) in
      elim done [
        | inl reached ↦ elim one [
          | inl none ↦ absurd (omega (arith, none, all, reached, since, until))
          | inr some ↦ (some.0, some.1, some.2, some.3, omega (arith, some.4, reached, since))
        ]
        | inr empty ↦ absurd (omega (arith, ap length empty, since, until))
      ]

  -- all readers are still past `gone` after one of them has moved on
  pub all_after_one : (xs ys : List (Reader W)) (i gone : ℕ) (before after : Reader W) → i < length xs → before ≡ get_or xs i before → before.next ≤ after.next
      → ys ≡ slice_set xs i after → All (λ (r : Reader W). gone ≤ r.next) xs → All (λ (r : Reader W). gone ≤ r.next) ys
  all_after_one xs ys i gone before after inside is later new all =
      let place : Reader W → Type 0 = λ r. gone ≤ r.next in
      let was : gone ≤ (get_or xs i before).next = all i before inside in
      let next : before.next ≡ (get_or xs i before).next = ap (λ (r : Reader W). r.next) is in
      subst (λ (l : List (Reader W)). All place l) (sym new) (All-set place xs i after (omega (arith, was, next, later)) all)
