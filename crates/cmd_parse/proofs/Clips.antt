-- The first clip of a name, entry by entry.
use Rattle.std.proofs.Common.{◌≡◌, ℕ, ◌+◌, zero, suc, true, false, List, [], ◌∷◌, drop, refl, ap, arith}
use Rattle.std.specs.Prelude.{Option, Some, slice_get}
use Rattle.std.specs.List.{find, enumerate_from}
use Rattle.play_types.specs.Media.{MediaNameView}
use Rattle.play_types.specs.Words.{is_same_name}

-- the first clip of a name from a position on
abbrev pub clip_from : List MediaNameView → List ℕ → ℕ → Option (ℕ × MediaNameView)
clip_from media word at = find (λ entry. is_same_name entry.1.name word) (enumerate_from at (drop at media))

drop_here : {X : Type 0} (xs : List X) (at : ℕ) (x : X) → slice_get xs at ≡ Some x → drop at xs ≡ x ∷ drop (at + 1) xs
drop_here [] at x h = cc
drop_here (y ∷ xs) zero x h = let e : y ≡ x = cc in ap (λ first. first ∷ xs) e
drop_here (y ∷ xs) (suc at) x h = let e : suc at + 1 ≡ suc (at + 1) = omega arith in rw e (drop_here xs at x h)

-- the clip at a position, if it has the name, or else one after it
pub clip_here : (media : List MediaNameView) (word : List ℕ) (at : ℕ) (entry : MediaNameView) → slice_get media at ≡ Some entry → is_same_name entry.name word ≡ true
    → clip_from media word at ≡ Some (at, entry)
clip_here media word at entry h same = rw (drop_here media at entry h, same) refl

pub clip_later : (media : List MediaNameView) (word : List ℕ) (at : ℕ) (entry : MediaNameView) → slice_get media at ≡ Some entry → is_same_name entry.name word ≡ false
    → clip_from media word at ≡ clip_from media word (at + 1)
clip_later media word at entry h other = rw (drop_here media at entry h, other) refl
