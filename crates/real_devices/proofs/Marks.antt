-- Devices with the marks from 1 on.
use Rattle.std.proofs.Common.{◌≡◌, ℕ, ◌+◌, List, [], ◌∷◌, ◌++◌, length, map, ap, ap₂, sym, ◌∙◌, arith}
use Rattle.std.specs.List.{range_with_len}
use Rattle.std.proofs.lemmas.List.{length_push, map-append}
use Rattle.std.proofs.lemmas.List.FromFn.{map-range_with_len_more}

-- one more device, with the next mark
pub marks_more : {A S : Type 0} (state : A → S) (quiet : ℕ → S) (items : List A) (item : A) (after : List A) (n k : ℕ) →
    n + 1 ≡ k → map state items ≡ map quiet (range_with_len 1 n) → state item ≡ quiet k → after ≡ items ++ item ∷ [] →
    map state after ≡ map quiet (range_with_len 1 (n + 1))
marks_more state quiet items item after n k next so_far last more =
    ap (map state) more ∙ map-append state items (item ∷ []) ∙ ap₂ (λ xs x. xs ++ x ∷ []) so_far last
    ∙ sym (map-range_with_len_more quiet 1 n k (omega (arith, next)))

-- `marks_more` if the devices are counted by the items that an iterator yielded
pub marks_turn : {A S Y : Type 0} (state : A → S) (quiet : ℕ → S) (items : List A) (item : A) (after : List A) (yielded : List Y) (y : Y) (mark : ℕ) →
    mark ≡ length yielded → map state items ≡ map quiet (range_with_len 1 (length yielded)) → state item ≡ quiet (mark + 1) →
    after ≡ items ++ item ∷ [] → map state after ≡ map quiet (range_with_len 1 (length (yielded ++ y ∷ [])))
marks_turn state quiet items item after yielded y mark at so_far last more =
    marks_more state quiet items item after (length yielded) (mark + 1) (omega (arith, at)) so_far last more
    ∙ ap (λ (n : ℕ). map quiet (range_with_len 1 n)) (sym (length_push yielded y))
