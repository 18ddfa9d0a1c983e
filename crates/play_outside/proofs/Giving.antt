-- Bytes that are given piece by piece.
use Rattle.std.proofs.Common.{◌≡◌, sym, ℕ, ◌+◌, ◌-◌, ◌≤◌, List, ◌++◌, take, drop, length, arith}
use Rattle.std.proofs.lemmas.Grind.{common_steps}
use Rattle.std.proofs.lemmas.List.{take-append-drop, drop-drop}
use Rattle.std.proofs.Math.Seq.{take-add}

-- a buffer with a piece at its beginning begins with what is left
front_piece : (bytes piece others : List ℕ) (given count : ℕ)
    → piece ≡ take count (take (length bytes - given) (drop given bytes)) → count ≤ length (take (length bytes - given) (drop given bytes))
    → take count (piece ++ others) ≡ take count (drop given bytes)
front_piece bytes piece others given count is_piece within =
    let rest : take (length bytes - given) (drop given bytes) ≡ drop given bytes = grind (arith, common_steps) in
    grind (arith, common_steps)

-- what is left is the piece at the beginning of a buffer, and then what is left after it
pub drop-piece : (bytes piece others : List ℕ) (given count : ℕ)
    → piece ≡ take count (take (length bytes - given) (drop given bytes)) → count ≤ length (take (length bytes - given) (drop given bytes))
    → drop given bytes ≡ take count (piece ++ others) ++ drop (given + count) bytes
drop-piece bytes piece others given count is_piece within =
    rw (front_piece bytes piece others given count is_piece within, ← drop-drop count given bytes)
    (sym (take-append-drop count (drop given bytes)))

-- what was given before, and then the piece, is what was given after it
pub take-piece : (bytes piece others : List ℕ) (given count : ℕ)
    → piece ≡ take count (take (length bytes - given) (drop given bytes)) → count ≤ length (take (length bytes - given) (drop given bytes))
    → take (given + count) bytes ≡ take given bytes ++ take count (piece ++ others)
take-piece bytes piece others given count is_piece within =
    rw (front_piece bytes piece others given count is_piece within) (take-add given count bytes)
