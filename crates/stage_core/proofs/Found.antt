-- What a search finds among places, and what an edit at that index does.
use Rattle.std.proofs.Common.{◌≡◌, ℕ, zero, suc, ◌<◌, ◌≤◌, eqb, true, false, [], ◌∷◌, length, set, insert, remove, Result, Ok, Err, IfOk, IfErr, refl, sym, ap, ◌∙◌, arith, eq-eqb, ne_eqb}
use Rattle.std.proofs.lemmas.Bool.{cond-true, cond-false}
use Rattle.std.proofs.lemmas.Bool.Decides.{nat_tests}
use Rattle.std.proofs.lemmas.Cmp.{ranked}
use Rattle.std.proofs.lemmas.List.Sorted.{IsNonDecreasingBy-from_default}
use Rattle.std.specs.List.Sorted.{IsSearchInRange, IsBinarySearchResult, IsNonDecreasingBy}
use Rattle.std.specs.Ordering.{nat_cmp, ordering_index}
use Rattle.history_model.specs.stage.Life.{Life, empty_place}
use Rattle.history_model.specs.stage.Live.{is_live}
use Rattle.history_model.specs.stage.Places.{AreAbove, ArePlaces, Places, in_front, standing, with_place}
use Rattle.history_model.proofs.places.Lists.{with_place-at, with_place-before, with_place-behind}
use Rattle.stage_core.specs.inner.Found.{IsAt, IsGapFor, place_in}

-- the layers of places rise along the list
above_at : (n : ℕ) (places : Places) (i : ℕ) → AreAbove n places → i < length places → n < (place_in places i).0
above_at n [] i above within = absurd (omega arith)
above_at n (place ∷ more) zero above within = above.0
above_at n (place ∷ more) (suc i) above within = above_at n more i above.1 (omega arith)

rising : (places : Places) → ArePlaces places → (i j : ℕ) → i < j → j < length places → (place_in places i).0 < (place_in places j).0
rising [] p i j order within = absurd (omega arith)
rising (place ∷ more) p zero zero order within = absurd (omega arith)
rising (place ∷ more) p zero (suc j) order within = above_at place.0 more j p.1 (omega arith)
rising (place ∷ more) p (suc i) zero order within = absurd (omega arith)
rising (place ∷ more) p (suc i) (suc j) order within = rising more p.2 i j (omega arith) (omega arith)

-- a binary search by layer ends at the layer, or at the gap for it
module _ (l : Places) (p : ArePlaces l) (k : ℕ) where
  comparisons_rise : IsNonDecreasingBy (λ (place : ℕ × Life). ordering_index (nat_cmp place.0 k)) l
  comparisons_rise = IsNonDecreasingBy-from_default (λ (place : ℕ × Life). ordering_index (nat_cmp place.0 k)) l (0, empty_place) (λ i j le in_range.
      let layers_rise : (place_in l i).0 ≤ (place_in l j).0 = grind (arith, rising l p i j, λ (same : i ≡ j). ap (λ n. (place_in l n).0) same) in
      grind (arith, nat_tests))

  pub searched : (r : Result ℕ ℕ) → IsSearchInRange r (length l) → IsBinarySearchResult (λ (place : ℕ × Life). nat_cmp place.0 k) l r →
      record { found : IfOk r (IsAt l k); absent : IfErr r (IsGapFor l k) }
  searched (Ok at) in_range equal = record { found = record { in_range = in_range; has_layer = ranked _ k _ (sym (equal (0, empty_place))) }; absent = tt }
  searched (Err at) in_range parted = record {
    found = tt;
    absent = record {
      in_range = in_range;
      lower = λ j lt. ranked _ k _ (sym ((parted comparisons_rise).0 j (0, empty_place) (omega arith) lt));
      higher = λ j le lt. ranked _ k _ (sym ((parted comparisons_rise).1 j (0, empty_place) le lt));
    };
  }

-- lower layers are before the index
abbrev AreLower : Places → ℕ → ℕ → Type 0
AreLower places layer index = (j : ℕ) → j < index → (place_in places j).0 < layer

lower_before : (places : Places) → ArePlaces places → (layer i : ℕ) → IsAt places layer i → AreLower places layer i
lower_before places p layer i is_at j below = omega (arith, rising places p j i below is_at.in_range, is_at.has_layer)

lower_in_rest : (place : ℕ × Life) (more : Places) (layer i : ℕ) → AreLower (place ∷ more) layer (suc i) → AreLower more layer i
lower_in_rest place more layer i lower j below = lower (suc j) (omega arith)

at_in_rest : (place : ℕ × Life) (more : Places) (layer i : ℕ) → IsAt (place ∷ more) layer (suc i) → IsAt more layer i
at_in_rest place more layer i is_at = record { in_range = omega (arith, is_at.in_range); has_layer = is_at.has_layer }

-- the place at a layer that was found
at_standing : (places : Places) (layer i : ℕ) → IsAt places layer i → AreLower places layer i → standing places layer ≡ (place_in places i).1
at_standing [] layer i is_at lower = absurd (omega (arith, is_at.in_range))
at_standing (place ∷ more) layer zero is_at lower = cond-true (eqb place.0 layer) place.1 (standing more layer) (eq-eqb place.0 layer is_at.has_layer)
at_standing (place ∷ more) layer (suc i) is_at lower =
    let below : place.0 < layer = lower 0 (omega arith) in
    cond-false (eqb place.0 layer) place.1 (standing more layer) (ne_eqb place.0 layer (λ e. omega arith))
    ∙ at_standing more layer i (at_in_rest place more layer i is_at) (lower_in_rest place more layer i lower)

pub standing-found : (places : Places) → ArePlaces places → (layer i : ℕ) → IsAt places layer i → standing places layer ≡ (place_in places i).1
standing-found places p layer i is_at = at_standing places layer i is_at (lower_before places p layer i is_at)

-- a layer that was not found is empty
pub standing-absent : (places : Places) (layer i : ℕ) → IsGapFor places layer i → standing places layer ≡ empty_place
standing-absent [] layer i gap = refl
standing-absent (place ∷ more) layer zero gap =
    let above : layer < place.0 = gap.higher 0 (omega arith) (omega arith) in
    cond-false (eqb place.0 layer) place.1 (standing more layer) (ne_eqb place.0 layer (λ e. omega arith))
    ∙ standing-absent more layer zero
    (record {
      in_range = omega arith;
      lower = λ j below. absurd (omega arith);
      higher = λ j from below. gap.higher (suc j) (omega arith) (omega arith);
    })
standing-absent (place ∷ more) layer (suc i) gap =
    let below : place.0 < layer = gap.lower 0 (omega arith) in
    cond-false (eqb place.0 layer) place.1 (standing more layer) (ne_eqb place.0 layer (λ e. omega arith))
    ∙ standing-absent more layer i
    (record {
      in_range = omega (arith, gap.in_range);
      lower = λ j low. gap.lower (suc j) (omega arith);
      higher = λ j from low. gap.higher (suc j) (omega arith) (omega arith);
    })

-- a layer that is live, or not, in front of others
in_front-live : (layer : ℕ) (life : Life) (more : Places) → is_live life ≡ true → in_front layer life more ≡ (layer, life) ∷ more
in_front-live layer life more live = cond-true (is_live life) _ _ live

in_front-dead : (layer : ℕ) (life : Life) (more : Places) → is_live life ≡ false → in_front layer life more ≡ more
in_front-dead layer life more dead = cond-false (is_live life) _ _ dead

-- a place that was found is written over, or removed
over_at : (places : Places) (layer i : ℕ) (life : Life) → is_live life ≡ true → IsAt places layer i → AreLower places layer i →
    with_place places layer life ≡ set places i (layer, life)
over_at [] layer i life live is_at lower = absurd (omega (arith, is_at.in_range))
over_at (place ∷ more) layer zero life live is_at lower =
    with_place-at place more layer life is_at.has_layer ∙ in_front-live layer life more live
over_at (place ∷ more) layer (suc i) life live is_at lower =
    with_place-behind place more layer life (lower 0 (omega arith))
    ∙ ap (λ (xs : Places). place ∷ xs)
    (over_at more layer i life live (at_in_rest place more layer i is_at) (lower_in_rest place more layer i lower))

pub with_place-set : (places : Places) → ArePlaces places → (layer i : ℕ) (life : Life) → is_live life ≡ true → IsAt places layer i →
    with_place places layer life ≡ set places i (layer, life)
with_place-set places p layer i life live is_at = over_at places layer i life live is_at (lower_before places p layer i is_at)

gone_at : (places : Places) (layer i : ℕ) (life : Life) → is_live life ≡ false → IsAt places layer i → AreLower places layer i →
    with_place places layer life ≡ remove places i
gone_at [] layer i life dead is_at lower = absurd (omega (arith, is_at.in_range))
gone_at (place ∷ more) layer zero life dead is_at lower =
    with_place-at place more layer life is_at.has_layer ∙ in_front-dead layer life more dead
gone_at (place ∷ more) layer (suc i) life dead is_at lower =
    with_place-behind place more layer life (lower 0 (omega arith))
    ∙ ap (λ (xs : Places). place ∷ xs)
    (gone_at more layer i life dead (at_in_rest place more layer i is_at) (lower_in_rest place more layer i lower))

pub with_place-remove : (places : Places) → ArePlaces places → (layer i : ℕ) (life : Life) → is_live life ≡ false → IsAt places layer i →
    with_place places layer life ≡ remove places i
with_place-remove places p layer i life dead is_at = gone_at places layer i life dead is_at (lower_before places p layer i is_at)

-- a gap in the rest of a list
gap_in_rest : (place : ℕ × Life) (more : Places) (layer i : ℕ) → IsGapFor (place ∷ more) layer (suc i) → IsGapFor more layer i
gap_in_rest place more layer i gap = record {
  in_range = omega (arith, gap.in_range);
  lower = λ j low. gap.lower (suc j) (omega arith);
  higher = λ j from low. gap.higher (suc j) (omega arith) (omega arith);
}

-- a live place that was not found is put in, and another leaves the list
pub with_place-insert : (places : Places) (layer i : ℕ) (life : Life) → is_live life ≡ true → IsGapFor places layer i →
    with_place places layer life ≡ insert places i (layer, life)
with_place-insert [] layer zero life live gap = in_front-live layer life [] live
with_place-insert [] layer (suc i) life live gap = absurd (omega (arith, gap.in_range))
with_place-insert (place ∷ more) layer zero life live gap =
    with_place-before place more layer life (gap.higher 0 (omega arith) (omega arith)) ∙ in_front-live layer life (place ∷ more) live
with_place-insert (place ∷ more) layer (suc i) life live gap =
    with_place-behind place more layer life (gap.lower 0 (omega arith))
    ∙ ap (λ (xs : Places). place ∷ xs) (with_place-insert more layer i life live (gap_in_rest place more layer i gap))

pub with_place-none : (places : Places) (layer i : ℕ) (life : Life) → is_live life ≡ false → IsGapFor places layer i →
    with_place places layer life ≡ places
with_place-none [] layer i life dead gap = in_front-dead layer life [] dead
with_place-none (place ∷ more) layer zero life dead gap =
    with_place-before place more layer life (gap.higher 0 (omega arith) (omega arith)) ∙ in_front-dead layer life (place ∷ more) dead
with_place-none (place ∷ more) layer (suc i) life dead gap =
    with_place-behind place more layer life (gap.lower 0 (omega arith))
    ∙ ap (λ (xs : Places). place ∷ xs) (with_place-none more layer i life dead (gap_in_rest place more layer i gap))
