-- Whole numbers and decimals.
use Rattle.std.specs.Prelude.{ℕ, ◌+◌, ◌*◌, ◌==◌, nat_le, nat_lt, Bool, ◌&&◌, if◌then◌else◌, Option, Some, None, option_and_then, List, [], ◌∷◌, ◌++◌, length, take, replicate, ℤ, pos, neg_ℤ}
use Rattle.std.specs.List.{before_first, after_first, list_all}
use Rattle.std.specs.Char.{is_ascii_digit}
use Rattle.std.specs.Str.Parse.{digits_value, starts_with_minus, without_leading_sign}

-- digits alone, or nothing
abbrev pub are_digits : List ℕ → Bool
are_digits text = list_all is_ascii_digit text

-- the number that one or more digits spell: leading zeros are allowed
abbrev pub whole_number : List ℕ → Option ℕ
whole_number text = if nat_lt 0 (length text) && are_digits text then Some (digits_value 10 text) else None

-- a number, if it lies from `least` to `most`
abbrev pub within : ℕ → ℕ → ℕ → Option ℕ
within least most number = if nat_le least number && nat_le number most then Some number else None

-- the whole number that a text spells, if it lies from `least` to `most`
abbrev pub number_within : ℕ → ℕ → List ℕ → Option ℕ
number_within least most text = option_and_then (within least most) (whole_number text)

-- the whole number that a text spells without a leading zero, if it lies from `least` to `most`
abbrev pub plain_number_within : ℕ → ℕ → List ℕ → Option ℕ
plain_number_within least most [] = None
plain_number_within least most (c ∷ cs) = if c == 48 then None else number_within least most (c ∷ cs)

abbrev pub is_point : ℕ → Bool
is_point c = c == 46

-- digits, and after a point digits: at least one digit in all
abbrev pub is_unsigned_decimal : List ℕ → Bool
is_unsigned_decimal text =
    let whole = before_first is_point text in
    let places = after_first is_point text in
    nat_lt 0 (length whole + length places) && (are_digits whole && are_digits places)

-- the first six digits after the point, with zeros for those that are not written
abbrev pub six_places : List ℕ → List ℕ
six_places places = take 6 (places ++ replicate 6 48)

-- the value of an unsigned decimal in millionths: digits after the sixth place are dropped
abbrev pub unsigned_micro : List ℕ → ℕ
unsigned_micro text = digits_value 10 (before_first is_point text) * 1000000 + digits_value 10 (six_places (after_first is_point text))

-- the value of a decimal in millionths: it may begin with a sign
abbrev pub decimal_micro : List ℕ → Option ℤ
decimal_micro text =
    let unsigned = without_leading_sign text in
    if is_unsigned_decimal unsigned
    then Some (if starts_with_minus text then neg_ℤ (pos (unsigned_micro unsigned)) else pos (unsigned_micro unsigned))
    else None
