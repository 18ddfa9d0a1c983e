-- The value of a text, by its sign and its digits.
use Rattle.std.proofs.Common.{◌≡◌, ℕ, ◌≤◌, zero, suc, Bool, true, false, cond, ◌&&◌, nat_le, List, length, ◌/◌, lit<, ℤ, pos, neg_ℤ, ◌-ℤ◌, to_z, of_z, w64, refl, sym, ap, ◌∙◌, arith, inl, inr}
use Rattle.std.specs.Prelude.{Option, Some, None, unsigned_abs}
use Rattle.std.specs.Option.{option_and_then, option_map}
use Rattle.std.specs.Fmt.{decimal}
use Rattle.std.proofs.lemmas.Fmt.{length-decimal-le}
use Rattle.std.specs.Str.{IsUtf8, chars}
use Rattle.std.specs.Str.Parse.{starts_with_minus, without_leading_sign}
use Rattle.std.proofs.lemmas.Bool.{cases_Bool, and_parts, leb-true}
use Rattle.std.proofs.lemmas.Option.{cond_some}
use Rattle.std.proofs.lemmas.Int.{ints}
use Rattle.amcp_text.specs.Numbers.{is_unsigned_decimal, unsigned_micro}
use Rattle.amcp_text.specs.Micros.{is_wide, micro_of}
use Rattle.amcp_text.proofs.TextLaws.{decimal_micro-chars}

-- a number with its sign
abbrev pub signed : Bool → ℕ → ℤ
signed minus n = cond minus (neg_ℤ (pos n)) (pos n)

unsigned_abs-signed : (minus : Bool) (n : ℕ) → unsigned_abs (signed minus n) ≡ n
unsigned_abs-signed true zero = refl
unsigned_abs-signed true (suc n) = refl
unsigned_abs-signed false n = refl

-- a text is read by its sign, its digits and its range
pub micro_of_signed : (text : List ℕ)
    → micro_of text ≡ cond (is_unsigned_decimal (without_leading_sign text) && nat_le (unsigned_micro (without_leading_sign text)) 1000000000)
    (Some (signed (starts_with_minus text) (unsigned_micro (without_leading_sign text)))) None
micro_of_signed text =
    let n = unsigned_micro (without_leading_sign text) in
    elim (cases_Bool (is_unsigned_decimal (without_leading_sign text))) [
      | inl decimal ↦ rw (decimal, unsigned_abs-signed (starts_with_minus text) n) refl
      | inr other ↦ rw other refl
    ]

pub micro_of-chars : (text : List ℕ) → IsUtf8 text → micro_of (chars text) ≡ micro_of text
micro_of-chars text utf8 = ap (option_and_then (λ (value : ℤ). cond (is_wide value) (Some value) None)) (decimal_micro-chars text utf8)

-- the value within the range of an unsigned text
abbrev unsigned_of : List ℕ → Option ℕ
unsigned_of unsigned = cond (is_unsigned_decimal unsigned && nat_le (unsigned_micro unsigned) 1000000000) (Some (unsigned_micro unsigned)) None

under_sign : (fits minus : Bool) (n : ℕ) → cond fits (Some (signed minus n)) None ≡ option_map (signed minus) (cond fits (Some n) None)
under_sign true minus n = refl
under_sign false minus n = refl

-- a text is read by its sign and by what follows it
pub micro_of_text : (text unsigned : List ℕ) (r : Option ℕ) → IsUtf8 text → unsigned ≡ without_leading_sign text → r ≡ unsigned_of unsigned
    → micro_of (chars text) ≡ option_map (signed (starts_with_minus text)) r
micro_of_text text unsigned r utf8 e read =
    micro_of-chars text utf8 ∙ micro_of_signed text
    ∙ under_sign (is_unsigned_decimal (without_leading_sign text) && nat_le (unsigned_micro (without_leading_sign text)) 1000000000) (starts_with_minus text) (unsigned_micro (without_leading_sign text))
    ∙ ap (option_map (signed (starts_with_minus text))) (sym (read ∙ ap unsigned_of e))

pub within : (unsigned : List ℕ) (n : ℕ) → Some n ≡ unsigned_of unsigned → n ≤ 1000000000
within unsigned n read =
    let found = cond_some (is_unsigned_decimal unsigned && nat_le (unsigned_micro unsigned) 1000000000) (unsigned_micro unsigned) n (sym read) in
    let small : unsigned_micro unsigned ≤ 1000000000 = leb-true (unsigned_micro unsigned) 1000000000 ((and_parts (is_unsigned_decimal unsigned) (nat_le (unsigned_micro unsigned) 1000000000) found.0).1) in
    omega (arith, found.1, small)

pub plus_value : (n : ℕ) (z : ℤ) → z ≡ pos n → n ≤ 1000000000 → to_z w64 (of_z w64 z) ≡ pos n
plus_value n z e small = omega (arith, ints)

pub minus_value : (n : ℕ) (z : ℤ) → z ≡ pos n → n ≤ 1000000000 → to_z w64 (of_z w64 (pos 0 -ℤ to_z w64 (of_z w64 z))) ≡ neg_ℤ (pos n)
minus_value n z e small = omega (arith, ints)

-- the whole part has at most four digits
pub whole_length : (n : ℕ) → n ≤ 1000000000 → length (decimal (n / 1000000)) ≤ 4
whole_length n small = length-decimal-le 4 (n / 1000000) (lit< tt) (omega arith) (omega arith)
