-- Numbers read digit by digit.
use Rattle.std.proofs.Common.{◌≡◌, ◌-◌, ◌&&◌, ℕ, ◌+◌, ◌*◌, ◌<◌, ◌≤◌, Bool, true, false, cond, ltb, List, take, length, get_or, refl, sym, ap, ◌∙◌, arith}
use Rattle.std.specs.Prelude.{Some, None, is_some, option_and_then}
use Rattle.std.specs.Str.{IsUtf8, chars}
use Rattle.std.specs.Char.{is_ascii_digit, digit_value}
use Rattle.std.specs.Int.{IsInRange}
use Rattle.std.specs.List.{list_all}
use Rattle.std.specs.Str.Parse.{digits_value}
use Rattle.std.proofs.lemmas.Str.{digit_value_digit}
use Rattle.std.proofs.lemmas.Bool.{false≢true, lt-ltb}
use Rattle.amcp_text.proofs.TextLaws.{whole_number-chars}
use Rattle.std.proofs.lemmas.Bool.Decides.{nat_tests}
use Rattle.std.proofs.lemmas.Int.Digits.{digits_value_more}
use Rattle.std.proofs.lemmas.Str.Parse.{digits_value-take-le}
use Rattle.std.proofs.lemmas.List.Folds.{list_all_at, list_all_more}
use Rattle.amcp_text.specs.Numbers.{are_digits, whole_number, within, number_within}

chosen : (a b : Bool) (n : ℕ) → a ≡ true → b ≡ true → cond (a && b) (Some n) None ≡ Some n
chosen true true n a b = refl
chosen true false n a b = absurd (false≢true b)
chosen false b' n a b = absurd (false≢true a)

not_chosen : (a b : Bool) (n : ℕ) → b ≡ false → cond (a && b) (Some n) None ≡ None
not_chosen true false n b = refl
not_chosen true true n b = absurd (false≢true (sym b))
not_chosen false b' n b = refl

-- the number of a text that has only digits
whole_number-digits : (text : List ℕ) → 0 < length text → list_all is_ascii_digit text ≡ true → whole_number text ≡ Some (digits_value 10 text)
whole_number-digits text some digits =
    chosen (ltb 0 (length text)) (list_all is_ascii_digit text) (digits_value 10 text) (grind (arith, nat_tests)) digits

-- a text with a character that is no digit is no whole number
whole_number-none : (text : List ℕ) → list_all is_ascii_digit text ≡ false → whole_number text ≡ None
whole_number-none text digits = not_chosen (ltb 0 (length text)) (list_all is_ascii_digit text) (digits_value 10 text) digits

-- a number above the upper end is not within the ends
within-above : (least most number : ℕ) → most < number → within least most number ≡ None
within-above least most number above = grind (arith, nat_tests)

-- a number below the lower end is not within the ends
pub within-below : (least most number : ℕ) → number < least → within least most number ≡ None
within-below least most number below = grind (arith, nat_tests)

pub within-both : (least most number : ℕ) → least ≤ number → number ≤ most → within least most number ≡ Some number
within-both least most number low high = grind (arith, nat_tests)

-- a text with a character that is no digit has no number
pub number_within-character : (least most : ℕ) (text : List ℕ) (i : ℕ) → i < length text → is_ascii_digit (get_or text i 0) ≡ false → number_within least most text ≡ None
number_within-character least most text i inside other =
    ap (option_and_then (within least most)) (whole_number-none text (list_all_at is_ascii_digit text i 0 inside other))

by_digits : (least most : ℕ) (text : List ℕ) (b : Bool) → list_all is_ascii_digit text ≡ b → 0 < length text → most < digits_value 10 text → number_within least most text ≡ None
by_digits least most text true digits some above =
    ap (option_and_then (within least most)) (whole_number-digits text some digits) ∙ within-above least most (digits_value 10 text) above
by_digits least most text false digits some above = ap (option_and_then (within least most)) (whole_number-none text digits)

-- a text that begins with a number above the upper end has no number within the ends
pub number_within-large : (least most : ℕ) (text : List ℕ) (i : ℕ) → 0 < length text → most < digits_value 10 (take i text) → number_within least most text ≡ None
number_within-large least most text i some above =
    by_digits least most text (list_all is_ascii_digit text) refl some
    (omega (arith, digits_value-take-le 10 text i (omega arith)))

-- a text of digits has the number, if that is within the ends
pub number_within-digits : (least most : ℕ) (text : List ℕ) → 0 < length text → list_all is_ascii_digit text ≡ true → number_within least most text ≡ within least most (digits_value 10 text)
number_within-digits least most text some digits =
    ap (option_and_then (within least most)) (whole_number-digits text some digits)

is_ascii_digit_range : (c : ℕ) → is_ascii_digit c ≡ true → IsInRange 48 57 c
is_ascii_digit_range c digit = grind (arith, nat_tests)

-- a digit's value is its place after the character 0
digit_value-is : (c : ℕ) → is_ascii_digit c ≡ true → digit_value c ≡ c - 48
digit_value-is c digit = omega (arith, digit_value_digit c (is_ascii_digit_range c digit))

-- the number with one more digit
pub value_more : (text : List ℕ) (i value : ℕ) → i < length text → is_ascii_digit (get_or text i 0) ≡ true → value ≡ digits_value 10 (take i text) → value * 10 + (get_or text i 0 - 48) ≡ digits_value 10 (take (i + 1) text)
value_more text i value inside digit so_far =
    rw (digits_value_more 10 text i inside, digit_value-is (get_or text i 0) digit, so_far) refl

-- one more digit among digits
pub digits_more : (text : List ℕ) (i : ℕ) → i < length text → is_ascii_digit (get_or text i 0) ≡ true → list_all is_ascii_digit (take i text) ≡ true → list_all is_ascii_digit (take (i + 1) text) ≡ true
digits_more text i inside digit so_far = rw (list_all_more is_ascii_digit text i 0 inside, so_far, digit) refl

some_of : (test : Bool) (number : ℕ) → is_some (cond test (Some number) None) ≡ test
some_of true number = refl
some_of false number = refl

-- a text without characters is no whole number
pub whole_number_empty : (text : List ℕ) → IsUtf8 text → length text ≡ 0 → is_some (whole_number (chars text)) ≡ false
whole_number_empty text utf8 empty = rw (whole_number-chars text utf8, empty) refl

-- a text with characters is a whole number just if all of them are digits
pub whole_number_some : (text : List ℕ) → IsUtf8 text → 0 < length text → is_some (whole_number (chars text)) ≡ are_digits text
whole_number_some text utf8 some = rw (whole_number-chars text utf8, lt-ltb 0 (length text) some) (some_of (are_digits text) (digits_value 10 text))
