-- Texts by their characters and by their bytes.
use Rattle.std.proofs.Common.{◌≡◌, ℕ, ◌==◌, List, [], ◌∷◌, length, bytes_eq, IsUtf8, encode_utf8_all, sym, refl, ap, ◌∙◌, arith}
use Rattle.std.proofs.lemmas.Bool.Decides.{nat_tests, same_from_decides}
use Rattle.std.proofs.lemmas.Slice.Eq.{bytes_eq-Decides}
use Rattle.std.proofs.lemmas.Str.{chars-encodes, length-le-encodes}
use Rattle.std.specs.Str.{chars}

-- encoding the characters of a text gives its bytes
pub encode_utf8_all-chars : (bytes : List ℕ) → IsUtf8 bytes → encode_utf8_all (chars bytes) ≡ bytes
encode_utf8_all-chars bytes text =
    ap encode_utf8_all (ap chars (sym text.1.1) ∙ chars-encodes text.0 text.1.0) ∙ text.1.1

-- two texts with equal characters are equal
pub chars_same : (xs ys : List ℕ) → IsUtf8 xs → IsUtf8 ys → chars xs ≡ chars ys → xs ≡ ys
chars_same xs ys x y e =
    sym (encode_utf8_all-chars xs x) ∙ ap encode_utf8_all e ∙ encode_utf8_all-chars ys y

encoded_empty : (cs : List ℕ) → (length (encode_utf8_all cs) == 0) ≡ (length cs == 0)
encoded_empty [] = refl
encoded_empty (c ∷ cs) = let longer = length-le-encodes (c ∷ cs) in grind (arith, nat_tests)

-- a text has no bytes just if it has no characters
pub no_bytes : (bytes : List ℕ) → IsUtf8 bytes → (length bytes == 0) ≡ (length (chars bytes) == 0)
no_bytes bytes text =
    ap (λ bs. length bs == 0) (sym (encode_utf8_all-chars bytes text)) ∙ encoded_empty (chars bytes)

-- comparing the bytes of two texts compares their characters
pub bytes_eq-chars : (xs ys : List ℕ) → IsUtf8 xs → IsUtf8 ys → bytes_eq xs ys ≡ bytes_eq (chars xs) (chars ys)
bytes_eq-chars xs ys x y =
    let bytes = bytes_eq-Decides xs ys in
    let letters = bytes_eq-Decides (chars xs) (chars ys) in
    same_from_decides _ _ bytes (λ e. chars_same xs ys x y (letters.0 e), λ e. letters.1 (ap chars e))
