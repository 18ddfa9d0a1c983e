-- A list that is copied element by element.
use Rattle.std.proofs.Common.{◌≡◌, ◌∙◌, ◌<◌, ◌++◌, ◌∷◌, [], List, ap, ap₂, length, sym, take, get_or, ℕ}
use Rattle.std.proofs.lemmas.List.{length_push, take_more}

-- one more element was yielded and copied
pub copied-turn : {X Y : Type 0} (xs : List X) (yielded : List Y) (y : Y) (x : X) (before after : List X) →
    (length yielded < length xs) × (x ≡ get_or xs (length yielded) x) → before ≡ take (length yielded) xs → after ≡ before ++ x ∷ [] →
    after ≡ take (length (yielded ++ y ∷ [])) xs
copied-turn {X} xs yielded y x before after turn so_far more =
    more ∙ ap₂ (λ (list : List X) (last : X). list ++ last ∷ []) so_far turn.1
    ∙ sym (take_more xs (length yielded) x turn.0)
    ∙ ap (λ (n : ℕ). take n xs) (sym (length_push yielded y))
