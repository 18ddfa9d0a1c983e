-- Bands that a gate has let in, in parts.
use Rattle.std.proofs.Common.{◌≡◌, ℕ, Bool, true, suc, ◌+◌, ◌<◌, List, [], ◌∷◌, ◌++◌, length, take, get_or, sym, ap, ◌∙◌, subst, arith}
use Rattle.std.proofs.Math.Seq.{take-suc}
use Rattle.std.proofs.lemmas.List.Elements.{All-append, All-cons}
use Rattle.band_render.specs.declared.band.Band.{Band}
use Rattle.band_render.specs.Bands.{AreLetIn}

-- two parts that were let in were let in as a whole
pub let_in_both : (entered : ℕ → Bool) (bands first last : List Band) → first ++ last ≡ bands → AreLetIn entered first → AreLetIn entered last →
    AreLetIn entered bands
let_in_both entered bands first last is one other = subst (AreLetIn entered) is (All-append (λ (b : Band). entered b.number ≡ true) first last one other)

-- one band more
pub let_in_more : (entered : ℕ → Bool) (bands : List Band) (at : ℕ) (band : Band) → at < length bands → band ≡ get_or bands at band →
    AreLetIn entered (take at bands) → entered band.number ≡ true → AreLetIn entered (take (at + 1) bands)
let_in_more entered bands at band lt is before now =
    let one : at + 1 ≡ suc at = omega arith in
    let last : AreLetIn entered (get_or bands at band ∷ []) =
    All-cons (λ (b : Band). entered b.number ≡ true) (get_or bands at band) [] (subst (λ (b : Band). entered b.number ≡ true) is now)
    (λ k d small. absurd (omega (arith, small))) in
    subst (AreLetIn entered) (sym (ap (λ (n : ℕ). take n bands) one ∙ take-suc bands at band lt))
    (All-append (λ (b : Band). entered b.number ≡ true) (take at bands) (get_or bands at band ∷ []) before last)
