-- Characters and bytes of words and numbers.
use Rattle.std.proofs.Common.{◌≡◌, ℕ, ◌<◌, true, ◌&&◌, List, [], ◌∷◌, length, ℤ, refl, sym, ap, ◌∙◌, arith, inl, inr, lit<}
use Rattle.std.specs.Prelude.{Option, Some, None, ◌==◌, nat_lt, encode_utf8_all}
use Rattle.std.specs.List.{before_first, after_first, list_any}
use Rattle.std.specs.Str.{IsUtf8, IsAscii, chars}
use Rattle.std.specs.Str.Parse.{digits_value, without_leading_sign}
use Rattle.std.specs.Char.{is_ascii_digit}
use Rattle.std.proofs.lemmas.Bool.{cases_Bool, and_parts, eqb-true, leb-true}
use Rattle.std.proofs.lemmas.Option.{cond_some}
use Rattle.std.proofs.lemmas.Str.{encodes-chars, encodes-IsAscii, chars-IsAscii, IsAscii-append}
use Rattle.std.proofs.lemmas.Str.Ascii.{IsAscii-nil, IsAscii-cons}
use Rattle.amcp_text.specs.Numbers.{are_digits, whole_number, is_point, is_unsigned_decimal, decimal_micro}
use Rattle.amcp_text.proofs.FirstEnd.{cut_at_first, before_first_none}

-- the bytes of a text whose characters are known
pub bytes_of_chars : (bytes cs : List ℕ) → IsUtf8 bytes → chars bytes ≡ cs → bytes ≡ encode_utf8_all cs
bytes_of_chars bytes cs utf8 e = sym (encodes-chars bytes utf8) ∙ ap encode_utf8_all e

-- the bytes of a text whose characters are known and are ASCII
pub ascii_of_chars : (bytes cs : List ℕ) → IsUtf8 bytes → chars bytes ≡ cs → IsAscii cs → bytes ≡ cs
ascii_of_chars bytes cs utf8 e ascii = bytes_of_chars bytes cs utf8 e ∙ encodes-IsAscii cs ascii

digit_is_ascii : (c : ℕ) → is_ascii_digit c ≡ true → c < 128
digit_is_ascii c h = omega (arith, leb-true c 57 (and_parts _ _ h).1)

pub digits_are_ascii : (text : List ℕ) → are_digits text ≡ true → IsAscii text
digits_are_ascii [] h = IsAscii-nil
digits_are_ascii (c ∷ cs) h =
    let parts = and_parts (is_ascii_digit c) (are_digits cs) h in
    IsAscii-cons c cs (digit_is_ascii c parts.0) (digits_are_ascii cs parts.1)

whole_number_is_ascii : (text : List ℕ) (n : ℕ) → whole_number text ≡ Some n → IsAscii text
whole_number_is_ascii text n h =
    digits_are_ascii text ((and_parts _ _ (cond_some (nat_lt 0 (length text) && are_digits text) (digits_value 10 text) n h).0).1)

unsigned_decimal_is_ascii : (text : List ℕ) → is_unsigned_decimal text ≡ true → IsAscii text
unsigned_decimal_is_ascii text h =
    let digits = and_parts _ _ ((and_parts _ _ h).1) in
    elim (cases_Bool (list_any is_point text)) [
      | inl point ↦
          let cut = cut_at_first is_point text point in
          let whole = digits_are_ascii (before_first is_point text) digits.0 in
          let places = digits_are_ascii (after_first is_point text) digits.1 in
          let small : cut.at < 128 = rw (eqb-true cut.at 46 cut.passes) (lit< tt) in
          let rest = IsAscii-cons cut.at (after_first is_point text) small places in
          rw cut.whole (IsAscii-append (before_first is_point text) (cut.at ∷ after_first is_point text) whole rest)
      | inr none ↦ rw (← before_first_none is_point text none) (digits_are_ascii (before_first is_point text) digits.0)
    ]

signed_is_ascii : (text : List ℕ) → IsAscii (without_leading_sign text) → IsAscii text
signed_is_ascii [] h = IsAscii-nil
signed_is_ascii (c ∷ cs) h = elim (cases_Bool (c == 45)) [
  | inl minus ↦ IsAscii-cons c cs (omega (arith, eqb-true c 45 minus)) (rw minus at h)
  | inr not_minus ↦ elim (cases_Bool (c == 43)) [
    | inl plus ↦ IsAscii-cons c cs (omega (arith, eqb-true c 43 plus)) (rw (not_minus, plus) at h)
    | inr not_plus ↦ rw (not_minus, not_plus) at h
  ]
]

decimal_is_ascii : (text : List ℕ) (value : ℤ) → decimal_micro text ≡ Some value → IsAscii text
decimal_is_ascii text value h =
    signed_is_ascii text (unsigned_decimal_is_ascii (without_leading_sign text) ((cond_some (is_unsigned_decimal (without_leading_sign text)) _ value h).0))

-- a function that reads only ASCII texts reads the characters and the bytes of a text alike
module _ {A : Type 0} (read : List ℕ → Option A) (ascii : (text : List ℕ) (value : A) → read text ≡ Some value → IsAscii text) where
  pub both_read : (text : List ℕ) → IsUtf8 text → (at_bytes at_chars : Option A) → read text ≡ at_bytes → read (chars text) ≡ at_chars → read (chars text) ≡ read text
  both_read text utf8 (Some value) at_chars b c = ap read (chars-IsAscii text (ascii text value b))
  both_read text utf8 None (Some value) b c =
      let same = encodes-chars text utf8 in
      ap read (sym (encodes-IsAscii (chars text) (ascii (chars text) value c)) ∙ same)
  both_read text utf8 None None b c = c ∙ sym b

pub whole_number-chars : (text : List ℕ) → IsUtf8 text → whole_number (chars text) ≡ whole_number text
whole_number-chars text utf8 = both_read whole_number whole_number_is_ascii text utf8 (whole_number text) (whole_number (chars text)) refl refl

pub decimal_micro-chars : (text : List ℕ) → IsUtf8 text → decimal_micro (chars text) ≡ decimal_micro text
decimal_micro-chars text utf8 = both_read decimal_micro decimal_is_ascii text utf8 (decimal_micro text) (decimal_micro (chars text)) refl refl
