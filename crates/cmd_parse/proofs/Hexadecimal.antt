-- Hexadecimal digits.
use Rattle.std.proofs.Common.{◌≡◌, ℕ, ◌<◌, ◌≤◌, ◌^◌, true, false, List, [], ◌∷◌, length, refl, sym, ap, ◌∙◌, arith, inl, inr, lit<}
use Rattle.std.specs.Prelude.{◌==◌}
use Rattle.std.specs.List.{list_all}
use Rattle.std.specs.Char.{is_ascii_hexdigit, digit_value}
use Rattle.std.specs.Str.{IsUtf8, IsAscii, chars}
use Rattle.std.specs.Str.Parse.{AllDigits, IsNumeral, digits_value, without_leading_plus}
use Rattle.std.proofs.Math.Nat.{pow-le-pow_right}
use Rattle.std.proofs.lemmas.Bool.{cases_Bool, and_parts}
use Rattle.std.proofs.lemmas.Bool.Decides.{nat_tests}
use Rattle.std.proofs.lemmas.Int.Digits.{digits_value-lt}
use Rattle.std.proofs.lemmas.Str.{encodes-chars, encodes-IsAscii, chars-IsAscii}
use Rattle.std.proofs.lemmas.Str.Ascii.{IsAscii-nil, IsAscii-cons}
use Rattle.history_model.specs.commands.Producer.{colour_of_digits}

hexdigit : (c : ℕ) → is_ascii_hexdigit c ≡ true → (c < 103) × (48 ≤ c) × (digit_value c < 16)
hexdigit c h = (grind (arith, nat_tests), grind (arith, nat_tests), grind (arith, nat_tests))

hexadecimal_is_ascii : (text : List ℕ) → list_all is_ascii_hexdigit text ≡ true → IsAscii text
hexadecimal_is_ascii [] h = IsAscii-nil
hexadecimal_is_ascii (c ∷ cs) h =
    let parts = and_parts (is_ascii_hexdigit c) (list_all is_ascii_hexdigit cs) h in
    IsAscii-cons c cs (omega (arith, (hexdigit c parts.0).0)) (hexadecimal_is_ascii cs parts.1)

all_hexadecimal : (text : List ℕ) → list_all is_ascii_hexdigit text ≡ true → AllDigits 16 text
all_hexadecimal [] h = tt
all_hexadecimal (c ∷ cs) h =
    let parts = and_parts (is_ascii_hexdigit c) (list_all is_ascii_hexdigit cs) h in
    ((hexdigit c parts.0).2, all_hexadecimal cs parts.1)

-- no digit is a plus
pub no_plus : (text : List ℕ) → list_all is_ascii_hexdigit text ≡ true → without_leading_plus text ≡ text
no_plus [] h = refl
no_plus (c ∷ cs) h =
    let parts = and_parts (is_ascii_hexdigit c) (list_all is_ascii_hexdigit cs) h in
    let other : (c == 43) ≡ false = grind (arith, nat_tests, hexdigit c parts.0) in
    rw other refl

-- a colour is read from the characters as from the bytes
pub colour_of_bytes : (text : List ℕ) → IsUtf8 text → colour_of_digits (chars text) ≡ colour_of_digits text
colour_of_bytes text utf8 = elim (cases_Bool (list_all is_ascii_hexdigit text)) [
  | inl digits ↦ ap colour_of_digits (chars-IsAscii text (hexadecimal_is_ascii text digits))
  | inr other ↦ elim (cases_Bool (list_all is_ascii_hexdigit (chars text))) [
    | inl digits ↦
        ap colour_of_digits (sym (encodes-IsAscii (chars text) (hexadecimal_is_ascii (chars text) digits)) ∙ encodes-chars text utf8)
    | inr none ↦ rw (other, none) refl
  ]
]

-- hexadecimal digits write a number below 16 to the power of their number
pub hexadecimal_below : (text : List ℕ) → list_all is_ascii_hexdigit text ≡ true → digits_value 16 text < 16 ^ length text
hexadecimal_below text digits = digits_value-lt 16 text (all_hexadecimal text digits)

-- one to eight digits parse as their number
pub hexadecimal_parses : (text : List ℕ) → list_all is_ascii_hexdigit text ≡ true → 0 < length text → length text ≤ 8
    → IsNumeral 16 (without_leading_plus text) × (digits_value 16 (without_leading_plus text) < 2 ^ 32)
hexadecimal_parses text digits some few =
    let below = hexadecimal_below text digits in
    let power : 16 ^ length text ≤ 16 ^ 8 = pow-le-pow_right (lit< tt) few in
    rw (no_plus text digits) ((some, all_hexadecimal text digits), omega (arith, below, power))
