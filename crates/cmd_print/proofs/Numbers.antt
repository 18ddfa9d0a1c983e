-- Printed numbers are read as the numbers that they print.
use Rattle.std.proofs.Common.{◌≡◌, ℕ, ◌+◌, ◌*◌, ◌/◌, ◌%◌, ◌^◌, ◌<◌, ◌≤◌, zero, suc, true, false, ◌==◌, List, [], ◌∷◌, length, refl, sym, ap, ◌∙◌, arith, lit<, add-one}
use Rattle.std.specs.Prelude.{Option, Some, None, option_and_then, decimal}
use Rattle.std.specs.List.{list_all}
use Rattle.std.specs.Char.{is_ascii_digit, is_ascii_hexdigit, digit_value, to_ascii_uppercase}
use Rattle.std.specs.Fmt.{digit_glyph}
use Rattle.std.specs.Str.Parse.{AllDigits, digits_value, digits_value_after}
use Rattle.std.proofs.Math.Arith.{mod-mul}
use Rattle.std.proofs.Math.Nat.{mul_comm}
use Rattle.std.proofs.lemmas.Int.Digits.{digits_value-lt}
use Rattle.std.proofs.lemmas.Bool.{and_parts, and_from}
use Rattle.std.proofs.lemmas.Bool.Decides.{nat_tests}
use Rattle.std.proofs.lemmas.Fmt.{digits_value-decimal, digits_decimal, decimal_nonempty}
use Rattle.std.proofs.lemmas.Nat.{mod_below}
use Rattle.std.proofs.lemmas.Grind.{pow_more}
use Rattle.amcp_text.specs.Numbers.{are_digits, whole_number, within, number_within}
use Rattle.amcp_text.proofs.Digits.{number_within-digits, within-both}
use Rattle.fixed_params.proofs.Digits.{own}
use Rattle.play_types.specs.Words.{is_word}
use Rattle.history_model.specs.commands.Producer.{colour_of_digits}
use Rattle.history_model.specs.text.Commands.{capital_digits}

pub are_digits-decimal : (n : ℕ) → n < 2 ^ 64 → are_digits (decimal n) ≡ true
are_digits-decimal n fits = digits_decimal own n fits

-- a number within its ends is read back
pub number_within-decimal : (least most n : ℕ) → least ≤ n → n ≤ most → n < 2 ^ 64 → number_within least most (decimal n) ≡ Some n
number_within-decimal least most n low high fits =
    number_within-digits least most (decimal n) (decimal_nonempty n fits) (are_digits-decimal n fits)
    ∙ ap (within least most) (digits_value-decimal own n fits) ∙ within-both least most n low high

-- a number that is within ends lies between them
pub record IsBetween (least most n : ℕ) : Type 0 where
  pub low : least ≤ n
  pub high : n ≤ most

within_between : (least most m n : ℕ) → within least most m ≡ Some n → IsBetween least most n
within_between least most m n h = record { low = grind (arith, nat_tests, h); high = grind (arith, nat_tests, h) }

between_of : (least most : ℕ) (read : Option ℕ) (n : ℕ) → option_and_then (within least most) read ≡ Some n → IsBetween least most n
between_of least most None n h = cc
between_of least most (Some m) n h = within_between least most m n h

pub number_within-between : (least most : ℕ) (word : List ℕ) (n : ℕ) → number_within least most word ≡ Some n → IsBetween least most n
number_within-between least most word n h = between_of least most (whole_number word) n h

-- a word that begins with a digit is no word that begins with a letter
not_word : (word : List ℕ) (first : ℕ) (rest : List ℕ) → are_digits word ≡ true → 57 < first → is_word (first ∷ rest) word ≡ false
unfolding is_word
not_word [] first rest digits letter = refl
not_word (c ∷ cs) first rest digits letter =
    let digit = and_parts (is_ascii_digit c) (list_all is_ascii_digit cs) digits in
    let other : (to_ascii_uppercase c == first) ≡ false = grind (arith, nat_tests, digit.0) in
    rw other refl

pub decimal_is_no_word : (n first : ℕ) (rest : List ℕ) → n < 2 ^ 64 → 57 < first → is_word (first ∷ rest) (decimal n) ≡ false
decimal_is_no_word n first rest fits letter = not_word (decimal n) first rest (are_digits-decimal n fits) letter

-- hexadecimal digits in capitals
power_next : (k : ℕ) → 16 ^ suc k ≡ 16 ^ k * 16
power_next k = rw (← add-one k) (pow_more 16 k)

sixteen_pos : (k : ℕ) → 0 < 16 ^ k
sixteen_pos zero = lit< tt
sixteen_pos (suc k) = rw (power_next k) (omega (arith, sixteen_pos k))

regroup : (a b p r : ℕ) → (a * 16 + b) * p + r ≡ a * (16 * p) + (b * p + r)
regroup a b p r = omega arith

digit_value_glyph : (d : ℕ) → d < 16 → digit_value (digit_glyph true d) ≡ d
digit_value_glyph d small = grind (arith, nat_tests)

hexadecimal_glyph : (d : ℕ) → d < 16 → is_ascii_hexdigit (digit_glyph true d) ≡ true
hexadecimal_glyph d small = grind (arith, nat_tests)

value_of_capitals : (k a n : ℕ) → digits_value_after 16 a (capital_digits k n) ≡ a * 16 ^ k + n % 16 ^ k
value_of_capitals zero a n = omega arith
value_of_capitals (suc k) a n =
    let d = n / 16 ^ k % 16 in
    let split : a * 16 ^ suc k + n % 16 ^ suc k ≡ (a * 16 + d) * 16 ^ k + n % 16 ^ k =
    rw (power_next k, mul_comm (16 ^ k) 16, mod-mul n {m = 16} {c = 16 ^ k} (lit< tt) (sixteen_pos k)) (sym (regroup a d (16 ^ k) (n % 16 ^ k))) in
    ap (λ (v : ℕ). digits_value_after 16 (a * 16 + v) (capital_digits k n)) (digit_value_glyph d (mod_below (n / 16 ^ k) 16 (lit< tt)))
    ∙ value_of_capitals k (a * 16 + d) n ∙ sym split

hexadecimal_capitals : (k n : ℕ) → list_all is_ascii_hexdigit (capital_digits k n) ≡ true
hexadecimal_capitals zero n = refl
hexadecimal_capitals (suc k) n =
    and_from _ _ (hexadecimal_glyph (n / 16 ^ k % 16) (mod_below (n / 16 ^ k) 16 (lit< tt))) (hexadecimal_capitals k n)

length-capitals : (k n : ℕ) → length (capital_digits k n) ≡ k
length-capitals zero n = refl
length-capitals (suc k) n = ap suc (length-capitals k n)

colour_of_eight : (digits : List ℕ) (value : ℕ) → list_all is_ascii_hexdigit digits ≡ true → length digits ≡ 8 → digits_value 16 digits ≡ value
    → colour_of_digits digits ≡ Some value
colour_of_eight digits value all eight number = rw (all, eight, number) refl

-- the digits of a colour are read as the colour
pub colour_of_capitals : (value : ℕ) → value < 2 ^ 32 → colour_of_digits (capital_digits 8 value) ≡ Some value
colour_of_capitals value fits =
    let number : digits_value 16 (capital_digits 8 value) ≡ value =
    value_of_capitals 8 0 value ∙ omega (arith, fits) in
    colour_of_eight (capital_digits 8 value) value (hexadecimal_capitals 8 value) (length-capitals 8 value) number

hexadecimal_digit : (c : ℕ) → is_ascii_hexdigit c ≡ true → digit_value c < 16
hexadecimal_digit c h = grind (arith, nat_tests)

all_hexadecimal : (text : List ℕ) → list_all is_ascii_hexdigit text ≡ true → AllDigits 16 text
all_hexadecimal [] h = tt
all_hexadecimal (c ∷ cs) h =
    let parts = and_parts (is_ascii_hexdigit c) (list_all is_ascii_hexdigit cs) h in
    (hexadecimal_digit c parts.0, all_hexadecimal cs parts.1)

-- hexadecimal digits write a number below 16 to the power of their number
pub hexadecimal_below : (text : List ℕ) → list_all is_ascii_hexdigit text ≡ true → digits_value 16 text < 16 ^ length text
hexadecimal_below text digits = digits_value-lt 16 text (all_hexadecimal text digits)
