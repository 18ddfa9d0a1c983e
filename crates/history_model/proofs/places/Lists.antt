-- Lists of places: they are determined by what they have at each layer, and one place more changes one layer.
use Rattle.std.proofs.Common.{◌≡◌, ℕ, suc, ◌<◌, ◌≤◌, eqb, ltb, Bool, true, false, ◌⊎◌, inl, inr, [], ◌∷◌, length, refl, sym, ap, ap₂, ◌∙◌, arith, is_some, eq-eqb, ne_eqb, lt-ltb, le-ltb, if◌then◌else◌}
use Rattle.std.proofs.lemmas.Bool.{false≢true, cases_eq, cases_lt, cases_order, cond-true, cond-false, or_parts}
use Rattle.std.specs.Prelude.{Option, Some, None}
use Rattle.history_model.specs.stage.Life.{Life, empty_place}
use Rattle.history_model.specs.stage.Live.{is_live}
use Rattle.history_model.specs.stage.Places.{Places, AreAbove, ArePlaces, standing, in_front, with_place}

-- a place without foreground and background is empty
none_of : {A : Type 0} (found : Option A) → is_some found ≡ false → found ≡ None
none_of None e = refl
none_of (Some a) e = cc

pub empty_unless_live : (s : Life) → is_live s ≡ false → s ≡ empty_place
empty_unless_live s e =
    let apart = or_parts (is_some s.foreground) (is_some s.background) e in
    λ i. record { foreground = none_of s.foreground apart.0 i; background = none_of s.background apart.1 i }

-- layers above a layer are above each lower one
pub AreAbove-lower : (places : Places) (m n : ℕ) → m ≤ n → AreAbove n places → AreAbove m places
AreAbove-lower [] m n low above = tt
AreAbove-lower (place ∷ more) m n low above = (omega (arith, above.0), AreAbove-lower more m n low above.1)

-- a list has nothing below its first layer
pub standing-below : (places : Places) (layer n : ℕ) → AreAbove layer places → n ≤ layer → standing places n ≡ empty_place
standing-below [] layer n above low = refl
standing-below (place ∷ more) layer n above low =
    cond-false (eqb place.0 n) place.1 (standing more n) (ne_eqb place.0 n (λ e. omega (arith, above.0)))
    ∙ standing-below more layer n above.1 low

-- what a list has at its first layer, and at another
standing-first : (place : ℕ × Life) (more : Places) (n : ℕ) → place.0 ≡ n → standing (place ∷ more) n ≡ place.1
standing-first place more n e = cond-true (eqb place.0 n) place.1 (standing more n) (eq-eqb place.0 n e)

standing-other : (place : ℕ × Life) (more : Places) (n : ℕ) → (place.0 ≡ n → ⊥) → standing (place ∷ more) n ≡ standing more n
standing-other place more n e = cond-false (eqb place.0 n) place.1 (standing more n) (ne_eqb place.0 n e)

-- a live place is not empty
not_empty : (s : Life) → is_live s ≡ true → s ≡ empty_place → ⊥
not_empty s live e = false≢true (sym (ap is_live e) ∙ live)

-- after equal first layers the rest is equal at each layer
same_rest : (xs ys : Places) (m n : ℕ) (s t : Life) → AreAbove m xs → AreAbove m ys →
    standing ((m, s) ∷ xs) n ≡ standing ((m, t) ∷ ys) n → (n ≤ m) ⊎ (m < n) → standing xs n ≡ standing ys n
same_rest xs ys m n s t above below same (inl low) =
    standing-below xs m n above low ∙ sym (standing-below ys m n below low)
same_rest xs ys m n s t above below same (inr high) =
    sym (standing-other (m, s) xs n (λ e. omega arith)) ∙ same ∙ standing-other (m, t) ys n (λ e. omega arith)

or_else : (m n : ℕ) → (m < n) ⊎ (n ≤ m) → (n ≤ m) ⊎ (m < n)
or_else m n (inl high) = inr high
or_else m n (inr low) = inl low

-- lists that have equal lives at each layer are equal
pub same_places : (xs ys : Places) → ArePlaces xs → ArePlaces ys → ((n : ℕ) → standing xs n ≡ standing ys n) → xs ≡ ys
same_places [] [] p q same = refl
same_places [] (y ∷ ys) p q same = absurd (not_empty y.1 q.0 (sym (standing-first y ys y.0 refl) ∙ sym (same y.0)))
same_places (x ∷ xs) [] p q same = absurd (not_empty x.1 p.0 (sym (standing-first x xs x.0 refl) ∙ same x.0))
same_places (x ∷ xs) (y ∷ ys) p q same = elim (cases_order x.0 y.0) [
  | inl e ↦
      let lives : x.1 ≡ y.1 = sym (standing-first x xs x.0 refl) ∙ same x.0 ∙ standing-first y ys x.0 (sym e) in
      let rests : (n : ℕ) → standing xs n ≡ standing ys n =
      λ n. same_rest xs ys x.0 n x.1 y.1 p.1 (rw e q.1)
      (same n ∙ (λ i. standing ((sym e i, y.1) ∷ ys) n)) (or_else x.0 n (cases_lt x.0 n)) in
      ap₂ (λ (place : ℕ × Life) (more : Places). place ∷ more) (λ i. (e i, lives i)) (same_places xs ys p.2 q.2 rests)
  | inr apart ↦ elim apart [
    | inl less ↦
        absurd (not_empty x.1 p.0
        (sym (standing-first x xs x.0 refl) ∙ same x.0 ∙ standing-other y ys x.0 (λ e. omega arith)
        ∙ standing-below ys y.0 x.0 q.1 (omega arith)))
    | inr more ↦
        absurd (not_empty y.1 q.0
        (sym (standing-first y ys y.0 refl) ∙ sym (same y.0) ∙ standing-other x xs y.0 (λ e. omega arith)
        ∙ standing-below xs x.0 y.0 p.1 (omega arith)))
  ]
]

-- a layer in front of others that are above it
standing-in_front : (live : Bool) (layer n : ℕ) (life : Life) (more : Places) → is_live life ≡ live → AreAbove layer more →
    standing (if live then (layer, life) ∷ more else more) n ≡ (if eqb layer n then life else standing more n)
standing-in_front true layer n life more e above = refl
standing-in_front false layer n life more e above = elim (cases_eq layer n) [
  | inl same ↦
      standing-below more layer n above (omega arith) ∙ sym (empty_unless_live life e)
      ∙ sym (cond-true (eqb layer n) life (standing more n) (eq-eqb layer n same))
  | inr apart ↦ sym (cond-false (eqb layer n) life (standing more n) (ne_eqb layer n apart))
]

ArePlaces-in_front : (live : Bool) (layer : ℕ) (life : Life) (more : Places) → is_live life ≡ live → AreAbove layer more →
    ArePlaces more → ArePlaces (if live then (layer, life) ∷ more else more)
ArePlaces-in_front true layer life more e above p = (e, above, p)
ArePlaces-in_front false layer life more e above p = p

AreAbove-in_front : (live : Bool) (m layer : ℕ) (life : Life) (more : Places) → m < layer → AreAbove m more →
    AreAbove m (if live then (layer, life) ∷ more else more)
AreAbove-in_front true m layer life more low above = (low, above)
AreAbove-in_front false m layer life more low above = above

-- the three cases of a list with one more place, by the order of its first layer
pub with_place-at : (place : ℕ × Life) (more : Places) (layer : ℕ) (life : Life) → place.0 ≡ layer →
    with_place (place ∷ more) layer life ≡ in_front layer life more
with_place-at place more layer life e = cond-true (eqb place.0 layer) _ _ (eq-eqb place.0 layer e)

pub with_place-before : (place : ℕ × Life) (more : Places) (layer : ℕ) (life : Life) → layer < place.0 →
    with_place (place ∷ more) layer life ≡ in_front layer life (place ∷ more)
with_place-before place more layer life low =
    cond-false (eqb place.0 layer) _ _ (ne_eqb place.0 layer (λ e. omega arith))
    ∙ cond-true (ltb layer place.0) _ _ (lt-ltb layer place.0 low)

pub with_place-behind : (place : ℕ × Life) (more : Places) (layer : ℕ) (life : Life) → place.0 < layer →
    with_place (place ∷ more) layer life ≡ place ∷ with_place more layer life
with_place-behind place more layer life high =
    cond-false (eqb place.0 layer) _ _ (ne_eqb place.0 layer (λ e. omega arith))
    ∙ cond-false (ltb layer place.0) _ _ (le-ltb layer place.0 (omega arith))

-- the layers stay above a lower one
pub AreAbove-with_place : (places : Places) (m layer : ℕ) (life : Life) → m < layer → AreAbove m places → AreAbove m (with_place places layer life)
AreAbove-with_place [] m layer life low above = AreAbove-in_front (is_live life) m layer life [] low tt
AreAbove-with_place (place ∷ more) m layer life low above = elim (cases_order place.0 layer) [
  | inl e ↦ rw (with_place-at place more layer life e) (AreAbove-in_front (is_live life) m layer life more low above.1)
  | inr apart ↦ elim apart [
    | inl high ↦ rw (with_place-behind place more layer life high) (above.0, AreAbove-with_place more m layer life low above.1)
    | inr lower ↦ rw (with_place-before place more layer life lower) (AreAbove-in_front (is_live life) m layer life (place ∷ more) low above)
  ]
]

-- a list of places with one more is a list of places
pub ArePlaces-with_place : (places : Places) (layer : ℕ) (life : Life) → ArePlaces places → ArePlaces (with_place places layer life)
ArePlaces-with_place [] layer life p = ArePlaces-in_front (is_live life) layer life [] refl tt tt
ArePlaces-with_place (place ∷ more) layer life p = elim (cases_order place.0 layer) [
  | inl e ↦ rw (with_place-at place more layer life e) (ArePlaces-in_front (is_live life) layer life more refl (rw (sym e) p.1) p.2)
  | inr apart ↦ elim apart [
    | inl high ↦
        rw (with_place-behind place more layer life high)
        (p.0, AreAbove-with_place more place.0 layer life high p.1, ArePlaces-with_place more layer life p.2)
    | inr lower ↦
        rw (with_place-before place more layer life lower)
        (ArePlaces-in_front (is_live life) layer life (place ∷ more) refl
        (lower, AreAbove-lower more layer place.0 (omega arith) p.1) p)
  ]
]

-- a list with one more place has that at its layer, and what it had at the others
pub standing-with_place : (places : Places) (layer n : ℕ) (life : Life) → ArePlaces places →
    standing (with_place places layer life) n ≡ (if eqb layer n then life else standing places n)
standing-with_place [] layer n life p = standing-in_front (is_live life) layer n life [] refl tt
standing-with_place (place ∷ more) layer n life p = elim (cases_order place.0 layer) [
  | inl e ↦
      ap (λ (xs : Places). standing xs n) (with_place-at place more layer life e)
      ∙ standing-in_front (is_live life) layer n life more refl (rw (sym e) p.1)
      ∙ replaced place more layer n life e (cases_eq layer n)
  | inr apart ↦ elim apart [
    | inl high ↦
        ap (λ (xs : Places). standing xs n) (with_place-behind place more layer life high)
        ∙ behind place more layer n life high (standing-with_place more layer n life p.2) (cases_eq place.0 n)
    | inr lower ↦
        ap (λ (xs : Places). standing xs n) (with_place-before place more layer life lower)
        ∙ standing-in_front (is_live life) layer n life (place ∷ more) refl
        (lower, AreAbove-lower more layer place.0 (omega arith) p.1)
  ]
]
  where
    replaced : (place : ℕ × Life) (more : Places) (layer n : ℕ) (life : Life) → place.0 ≡ layer → (layer ≡ n) ⊎ (layer ≡ n → ⊥) →
        (if eqb layer n then life else standing more n) ≡ (if eqb layer n then life else standing (place ∷ more) n)
    replaced place more layer n life e (inl same) =
        cond-true (eqb layer n) _ _ (eq-eqb layer n same) ∙ sym (cond-true (eqb layer n) _ _ (eq-eqb layer n same))
    replaced place more layer n life e (inr apart) =
        ap (λ (s : Life). if eqb layer n then life else s) (sym (standing-other place more n (λ f. apart (sym e ∙ f))))

    behind : (place : ℕ × Life) (more : Places) (layer n : ℕ) (life : Life) → place.0 < layer →
        standing (with_place more layer life) n ≡ (if eqb layer n then life else standing more n) → (place.0 ≡ n) ⊎ (place.0 ≡ n → ⊥) →
        standing (place ∷ with_place more layer life) n ≡ (if eqb layer n then life else standing (place ∷ more) n)
    behind place more layer n life high rest (inl same) =
        standing-first place (with_place more layer life) n same ∙ sym (standing-first place more n same)
        ∙ sym (cond-false (eqb layer n) life (standing (place ∷ more) n) (ne_eqb layer n (λ e. omega arith)))
    behind place more layer n life high rest (inr apart) =
        standing-other place (with_place more layer life) n apart ∙ rest
        ∙ ap (λ (s : Life). if eqb layer n then life else s) (sym (standing-other place more n apart))

-- a place that is live only if its layer was before makes the list no longer
pub length-with_place : (places : Places) (layer : ℕ) (life : Life) → ArePlaces places →
    (is_live life ≡ true → is_live (standing places layer) ≡ true) → length (with_place places layer life) ≤ length places
length-with_place [] layer life p was = few (is_live life) refl was
  where
    few : (live : Bool) → is_live life ≡ live → (is_live life ≡ true → false ≡ true) → length {A = ℕ × Life} (if live then (layer, life) ∷ [] else []) ≤ 0
    few true e was = absurd (false≢true (was e))
    few false e was = omega arith
length-with_place (place ∷ more) layer life p was = elim (cases_order place.0 layer) [
  | inl e ↦ rw (with_place-at place more layer life e) (no_more (is_live life))
  | inr apart ↦ elim apart [
    | inl high ↦
        let rest : length (with_place more layer life) ≤ length more =
        length-with_place more layer life p.2
        (λ e. sym (ap is_live (standing-other place more layer (λ f. omega arith))) ∙ was e) in
        rw (with_place-behind place more layer life high) (omega arith)
    | inr lower ↦
        let nothing : is_live (standing (place ∷ more) layer) ≡ false =
        ap is_live (standing-other place more layer (λ f. omega arith)
        ∙ standing-below more place.0 layer p.1 (omega arith)) in
        rw (with_place-before place more layer life lower) (stays (is_live life) refl nothing)
  ]
]
  where
    no_more : (live : Bool) → length {A = ℕ × Life} (if live then (layer, life) ∷ more else more) ≤ suc (length more)
    no_more true = omega arith
    no_more false = omega arith

    stays : (live : Bool) → is_live life ≡ live → is_live (standing (place ∷ more) layer) ≡ false →
        length {A = ℕ × Life} (if live then (layer, life) ∷ place ∷ more else place ∷ more) ≤ suc (length more)
    stays true e nothing = absurd (false≢true (sym nothing ∙ was e))
    stays false e nothing = omega arith
