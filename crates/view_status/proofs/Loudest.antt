-- The greatest absolute values of samples, pair by pair.
use Rattle.std.proofs.Common.{◌≡◌, ℕ, ◌+◌, max, List, [], ◌∷◌, ◌++◌, map, ap, ◌∙◌, arith}
use Rattle.std.specs.List.{range_with_len}
use Rattle.std.proofs.lemmas.List.FromFn.{map-range_with_len_more}
use Rattle.view_status.specs.Levels.{greatest, loudness}

greatest_more : (ns : List ℕ) (n : ℕ) → greatest (ns ++ n ∷ []) ≡ max (greatest ns) n
greatest_more [] n = omega arith
greatest_more (m ∷ ns) n = let rest = greatest_more ns n in omega (arith, rest)

-- the level of a side in the first pairs
abbrev pub level_to : List ℕ → ℕ → ℕ → ℕ
level_to sound side pairs = greatest (map (loudness sound side) (range_with_len 0 pairs))

-- one more pair
pub level_more : (sound : List ℕ) (side pairs : ℕ) → level_to sound side (pairs + 1) ≡ max (level_to sound side pairs) (loudness sound side pairs)
level_more sound side pairs =
    ap greatest (map-range_with_len_more (loudness sound side) 0 pairs pairs (omega arith))
    ∙ greatest_more (map (loudness sound side) (range_with_len 0 pairs)) (loudness sound side pairs)
