-- Hexadecimal digits in capitals.
use Rattle.std.proofs.Common.{◌≡◌, ℕ, zero, suc, ◌/◌, ◌%◌, ◌<◌, ◌^◌, true, List, ◌∷◌, map, slice_index, refl, ap, ap₂, ◌∙◌, arith}
use Rattle.std.specs.Char.{to_ascii_uppercase}
use Rattle.std.specs.Fmt.{digit_glyph}
use Rattle.std.specs.Int.{w32, to_be_bytes}
use Rattle.hex.specs.Hex.{encode_lower, encode_with, lower_digits}
use Rattle.history_model.specs.text.Commands.{capital_digits}

-- the capital of a digit
capital : (d : ℕ) → d < 16 → to_ascii_uppercase (slice_index lower_digits d) ≡ digit_glyph true d
capital zero low = refl
capital (suc zero) low = refl
capital (suc (suc zero)) low = refl
capital (suc (suc (suc zero))) low = refl
capital (suc (suc (suc (suc zero)))) low = refl
capital (suc (suc (suc (suc (suc zero))))) low = refl
capital (suc (suc (suc (suc (suc (suc zero)))))) low = refl
capital (suc (suc (suc (suc (suc (suc (suc zero))))))) low = refl
capital (suc (suc (suc (suc (suc (suc (suc (suc zero)))))))) low = refl
capital (suc (suc (suc (suc (suc (suc (suc (suc (suc zero))))))))) low = refl
capital (suc (suc (suc (suc (suc (suc (suc (suc (suc (suc zero)))))))))) low = refl
capital (suc (suc (suc (suc (suc (suc (suc (suc (suc (suc (suc zero))))))))))) low = refl
capital (suc (suc (suc (suc (suc (suc (suc (suc (suc (suc (suc (suc zero)))))))))))) low = refl
capital (suc (suc (suc (suc (suc (suc (suc (suc (suc (suc (suc (suc (suc zero))))))))))))) low = refl
capital (suc (suc (suc (suc (suc (suc (suc (suc (suc (suc (suc (suc (suc (suc zero)))))))))))))) low = refl
capital (suc (suc (suc (suc (suc (suc (suc (suc (suc (suc (suc (suc (suc (suc (suc zero))))))))))))))) low = refl
capital (suc (suc (suc (suc (suc (suc (suc (suc (suc (suc (suc (suc (suc (suc (suc (suc d)))))))))))))))) low = absurd (omega (arith, low))

-- the digits of four bytes are those of the number
digit_of : (d number : ℕ) → d < 16 → d ≡ number → to_ascii_uppercase (slice_index lower_digits d) ≡ digit_glyph true number
digit_of d number low e = capital d low ∙ ap (digit_glyph true) e

pub colour_in_capitals : (value : ℕ) → value < 2 ^ 32 → map to_ascii_uppercase (encode_lower (to_be_bytes w32 value)) ≡ capital_digits 8 value
unfolding encode_with
colour_in_capitals value fits =
    let cons : ℕ → List ℕ → List ℕ = λ d more. d ∷ more in
    ap₂ cons (digit_of (value / 256 ^ 3 % 256 / 16) (value / 16 ^ 7 % 16) (omega arith) (omega arith))
    (ap₂ cons (digit_of (value / 256 ^ 3 % 256 % 16) (value / 16 ^ 6 % 16) (omega arith) (omega arith))
    (ap₂ cons (digit_of (value / 256 ^ 2 % 256 / 16) (value / 16 ^ 5 % 16) (omega arith) (omega arith))
    (ap₂ cons (digit_of (value / 256 ^ 2 % 256 % 16) (value / 16 ^ 4 % 16) (omega arith) (omega arith))
    (ap₂ cons (digit_of (value / 256 ^ 1 % 256 / 16) (value / 16 ^ 3 % 16) (omega arith) (omega arith))
    (ap₂ cons (digit_of (value / 256 ^ 1 % 256 % 16) (value / 16 ^ 2 % 16) (omega arith) (omega arith))
    (ap₂ cons (digit_of (value % 256 / 16) (value / 16 ^ 1 % 16) (omega arith) (omega arith))
    (ap₂ cons (digit_of (value % 256 % 16) (value / 16 ^ 0 % 16) (omega arith) (omega arith)) refl)))))))
