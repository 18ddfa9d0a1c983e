-- Hexadecimal text of bytes that come in parts.
use Rattle.std.proofs.Common.{◌≡◌, ℕ, ◌+◌, ◌-◌, ◌/◌, ◌%◌, List, [], ◌∷◌, ◌++◌, take, drop, length, slice_index, refl, sym, ap, ◌∙◌, append_assoc, arith}
use Rattle.std.proofs.lemmas.Grind.{common_steps}
use Rattle.std.proofs.lemmas.List.{take-append-drop}
use Rattle.std.proofs.Math.Seq.{take-add}
use Rattle.hex.specs.Hex.{encode_with, encode_lower, lower_digits}

encode_with-append : (t a b : List ℕ) → encode_with t (a ++ b) ≡ encode_with t a ++ encode_with t b
unfolding encode_with
encode_with-append t [] b = refl
encode_with-append t (x ∷ a) b =
    ap (λ (text : List ℕ). slice_index t (x / 16) ∷ slice_index t (x % 16) ∷ text) (encode_with-append t a b)

-- the text of two parts is their texts in a row
pub encode_lower-append : (a b : List ℕ) → encode_lower (a ++ b) ≡ encode_lower a ++ encode_lower b
encode_lower-append a b = encode_with-append lower_digits a b

-- no bytes have no text
pub encode_lower-nil : encode_lower [] ≡ []
unfolding encode_with
encode_lower-nil = refl

-- the text of a prefix and of one piece more
pub encode_lower-more : (at count : ℕ) (bytes : List ℕ) → encode_lower (take (at + count) bytes)
    ≡ encode_lower (take at bytes) ++ encode_lower (take (at + count - at) (drop at bytes))
encode_lower-more at count bytes =
    let piece : at + count - at ≡ count = omega arith in
    rw piece (rw take-add (encode_lower-append (take at bytes) (take count (drop at bytes))))

-- the text of a prefix, of one piece more, and of the rest
encode_lower-parts : (at count : ℕ) (bytes : List ℕ) → encode_lower bytes
    ≡ (encode_lower (take at bytes) ++ encode_lower (take (at + count - at) (drop at bytes))) ++ encode_lower (drop (at + count) bytes)
encode_lower-parts at count bytes =
    rw (← encode_lower-more at count bytes)
    (ap encode_lower (sym (take-append-drop (at + count) bytes)) ∙ encode_lower-append (take (at + count) bytes) (drop (at + count) bytes))

-- the line of bytes: the text of a prefix, of one piece more, and the rest of the line
pub line-parts : (at count : ℕ) (bytes : List ℕ) → encode_lower bytes ++ 10 ∷ []
    ≡ (encode_lower (take at bytes) ++ encode_lower (take (at + count - at) (drop at bytes))) ++ (encode_lower (drop (at + count) bytes) ++ 10 ∷ [])
line-parts at count bytes =
    ap (λ (text : List ℕ). text ++ 10 ∷ []) (encode_lower-parts at count bytes)
    ∙ append_assoc (encode_lower (take at bytes) ++ encode_lower (take (at + count - at) (drop at bytes))) (encode_lower (drop (at + count) bytes)) (10 ∷ [])

-- the line of bytes: the text of a prefix, of all other bytes, and the line feed
pub line-end : (at : ℕ) (bytes : List ℕ) → encode_lower bytes ++ 10 ∷ []
    ≡ (encode_lower (take at bytes) ++ encode_lower (take (length bytes - at) (drop at bytes))) ++ 10 ∷ []
line-end at bytes =
    let rest : take (length bytes - at) (drop at bytes) ≡ drop at bytes = grind (arith, common_steps) in
    rw (rest, ← encode_lower-append, take-append-drop) refl
