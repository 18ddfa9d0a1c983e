-- Bands that are counted, one more at a time.
use Rattle.std.proofs.Common.{◌≡◌, ℕ, ◌+◌, ◌<◌, ◌≤◌, List, [], ◌∷◌, ◌++◌, length, get_or, ⊎_elim, sym, ap, ◌∙◌, length-append, subst, arith}
use Rattle.std.proofs.lemmas.Bool.{cases_lt}
use Rattle.std.proofs.lemmas.List.{get_or-append-add, get_or_append_left}
use Rattle.band_render.specs.declared.band.Band.{Band}
use Rattle.band_render.specs.Bands.{AreNumbered}

-- one band more, whose number is how many there were
pub numbered_more : (bands : List Band) (band : Band) (now : List Band) → now ≡ bands ++ band ∷ [] → band.number ≡ length bands →
    AreNumbered bands → AreNumbered now
numbered_more bands band now is here old =
    let long = length-append bands (band ∷ []) in
    let last : (k : ℕ) (d : Band) → k ≡ length bands + 0 → (get_or (bands ++ band ∷ []) k d).number ≡ k =
    λ k d place. subst (λ (n : ℕ). (get_or (bands ++ band ∷ []) n d).number ≡ n) (sym place)
    (ap (λ (b : Band). b.number) (get_or-append-add bands (band ∷ []) 0 d) ∙ omega (arith, here)) in
    subst AreNumbered (sym is)
    (λ k d lt.
    ⊎_elim (λ (small : k < length bands). ap (λ (b : Band). b.number) (get_or_append_left bands (band ∷ []) d k small) ∙ old k d small)
    (λ (le : length bands ≤ k). last k d (omega (arith, le, lt, long))) (cases_lt k (length bands)))
