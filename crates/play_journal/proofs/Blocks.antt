-- Lists of lists whose last one grows.
use Rattle.std.proofs.Common.{◌≡◌, ℕ, zero, suc, ◌+◌, List, [], ◌∷◌, ◌++◌, length, get_or, set, sym, ap, ◌∙◌, arith, append_assoc, append-nil}
use Rattle.std.specs.List.{flat_map}

-- if the last list has more at its end, so have all of them together
pub last_grows : {X A : Type 0} (f : X → List A) (xs : List X) (i : ℕ) (d y : X) (more : List A) → i + 1 ≡ length xs →
    f y ≡ f (get_or xs i d) ++ more → flat_map f (set xs i y) ≡ flat_map f xs ++ more
last_grows f [] i d y more last grows = absurd (omega (arith, last))
last_grows f (x ∷ []) zero d y more last grows = append-nil (f y) ∙ grows ∙ ap (λ front. front ++ more) (sym (append-nil (f x)))
last_grows f (x ∷ []) (suc i) d y more last grows = absurd (omega (arith, last))
last_grows f (x ∷ z ∷ xs) zero d y more last grows = absurd (omega (arith, last))
last_grows f (x ∷ z ∷ xs) (suc i) d y more last grows =
    let earlier : i + 1 ≡ length (z ∷ xs) = omega (arith, last) in
    ap (λ rest. f x ++ rest) (last_grows f (z ∷ xs) i d y more earlier grows)
    ∙ sym (append_assoc (f x) (flat_map f (z ∷ xs)) more)
