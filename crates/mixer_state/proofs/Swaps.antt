-- The entries of two places that are exchanged.
use Rattle.std.proofs.Common.{◌≡◌, true, false, inl, inr, sym, ap, ◌∙◌}
use Rattle.std.specs.Prelude.{None, Some}
use Rattle.std.proofs.lemmas.Bool.{cases_Bool, cond-true, cond-false, false≢true}
use Rattle.play_types.specs.Place.{PlaceView}
use Rattle.history_model.specs.stage.Trail.{same_place, swapped_place}
use Rattle.mixer_state.specs.declared.courses.Courses.{Courses}
use Rattle.mixer_state.specs.Entries.{Table}
use Rattle.mixer_state.specs.inner.Changes.{with_entry}
use Rattle.mixer_state.proofs.Exchanged.{same_place-same, same_place-true, swapped-first, swapped-other, swapped-second}

same_place-flip : (a b : PlaceView) → same_place a b ≡ true → same_place b a ≡ true
same_place-flip a b e = ap (same_place b) (same_place-true a b e) ∙ same_place-same b

other_place-flip : (a b : PlaceView) → same_place a b ≡ false → same_place b a ≡ false
other_place-flip a b n =
    elim (cases_Bool (same_place b a)) [
      | inl e ↦ absurd (false≢true (sym n ∙ same_place-flip b a e))
      | inr m ↦ m
    ]

-- two places are exchanged in either order
swapped-order : (a b place : PlaceView) → swapped_place b a place ≡ swapped_place a b place
swapped-order a b place =
    elim (cases_Bool (same_place place a)) [
      | inl e ↦ elim (cases_Bool (same_place place b)) [
        | inl f ↦
            swapped-first b a place f ∙ sym (same_place-true place a e) ∙ same_place-true place b f
            ∙ sym (swapped-first a b place e)
        | inr m ↦ swapped-second b a place m e ∙ sym (swapped-first a b place e)
      ]
      | inr n ↦ elim (cases_Bool (same_place place b)) [
        | inl f ↦ swapped-first b a place f ∙ sym (swapped-second a b place n f)
        | inr m ↦ swapped-other b a place m n ∙ sym (swapped-other a b place n m)
      ]
    ]

module _ (a b : PlaceView) (table : Table) (place : PlaceView) where
  -- of which the first has an entry
  pub carried : (courses : Courses) → table a ≡ Some courses → table b ≡ None →
      with_entry a None (with_entry b (Some courses) table) place ≡ table (swapped_place a b place)
  carried courses of_a of_b =
      elim (cases_Bool (same_place a place)) [
        | inl e ↦
            cond-true (same_place a place) None _ e ∙ sym of_b
            ∙ ap table (sym (swapped-first a b place (same_place-flip a place e)))
        | inr n ↦
            cond-false (same_place a place) None _ n
            ∙ elim (cases_Bool (same_place b place)) [
              | inl e ↦
                  cond-true (same_place b place) (Some courses) (table place) e ∙ sym of_a
                  ∙ ap table (sym (swapped-second a b place (other_place-flip a place n) (same_place-flip b place e)))
              | inr m ↦
                  cond-false (same_place b place) (Some courses) (table place) m
                  ∙ ap table (sym (swapped-other a b place (other_place-flip a place n) (other_place-flip b place m)))
            ]
      ]

  -- of which both have one
  pub both_replaced : (first second : Courses) → table a ≡ Some first → table b ≡ Some second →
      with_entry b (Some first) (with_entry a (Some second) table) place ≡ table (swapped_place a b place)
  both_replaced first second of_a of_b =
      elim (cases_Bool (same_place b place)) [
        | inl e ↦
            cond-true (same_place b place) (Some first) _ e ∙ sym of_a
            ∙ elim (cases_Bool (same_place place a)) [
              | inl f ↦
                  ap table (sym (same_place-true place a f) ∙ sym (same_place-true b place e))
                  ∙ ap table (sym (swapped-first a b place f))
              | inr n ↦ ap table (sym (swapped-second a b place n (same_place-flip b place e)))
            ]
        | inr m ↦
            cond-false (same_place b place) (Some first) _ m
            ∙ elim (cases_Bool (same_place a place)) [
              | inl e ↦
                  cond-true (same_place a place) (Some second) (table place) e ∙ sym of_b
                  ∙ ap table (sym (swapped-first a b place (same_place-flip a place e)))
              | inr n ↦
                  cond-false (same_place a place) (Some second) (table place) n
                  ∙ ap table (sym (swapped-other a b place (other_place-flip a place n) (other_place-flip b place m)))
            ]
      ]

-- the entry of the second, if the first gets it too
pub second_kept : (a b : PlaceView) (table : Table) (second : Courses) → table b ≡ Some second → with_entry a (Some second) table b ≡ Some second
second_kept a b table second of_b =
    elim (cases_Bool (same_place a b)) [
      | inl e ↦ cond-true (same_place a b) (Some second) (table b) e
      | inr n ↦ cond-false (same_place a b) (Some second) (table b) n ∙ of_b
    ]

-- of which the second has one
pub carried_back : (a b : PlaceView) (table : Table) (place : PlaceView) (courses : Courses) → table b ≡ Some courses → table a ≡ None →
    with_entry b None (with_entry a (Some courses) table) place ≡ table (swapped_place a b place)
carried_back a b table place courses of_b of_a = carried b a table place courses of_b of_a ∙ ap table (swapped-order a b place)
