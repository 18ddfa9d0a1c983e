-- Values in millionths: how they are read from a text, and how they are printed.
use Rattle.std.specs.Prelude.{ℕ, zero, suc, ◌+◌, ◌-◌, ◌/◌, ◌%◌, ◌^◌, ◌==◌, nat_le, Bool, if◌then◌else◌, Option, Some, None, List, [], ◌∷◌, ◌++◌, length, take, ℤ, pos, negsuc, unsigned_abs}
use Rattle.std.specs.List.{suffix_len}
use Rattle.std.specs.Option.{option_and_then}
use Rattle.std.specs.Fmt.{decimal}
use Rattle.amcp_text.specs.Numbers.{decimal_micro}

-- within minus 1000 to 1000
abbrev pub is_wide : ℤ → Bool
is_wide value = nat_le (unsigned_abs value) 1000000000

-- the value of a decimal, if it is within minus 1000 to 1000
abbrev pub micro_of : List ℕ → Option ℤ
micro_of text = option_and_then (λ value. if is_wide value then Some value else None) (decimal_micro text)

-- the last `count` digits of a number, with zeros before them if it has fewer
unfoldable pub last_digits : ℕ → ℕ → List ℕ
last_digits zero n = []
last_digits (suc count) n = (48 + (n / 10 ^ count) % 10) ∷ last_digits count n

-- digits without the zeros at their end
abbrev pub without_end_zeros : List ℕ → List ℕ
without_end_zeros digits = take (length digits - suffix_len (λ c. c == 48) digits) digits

-- a number of millionths: the whole part, and if the rest is not zero a point and the rest
abbrev pub printed_unsigned : ℕ → List ℕ
printed_unsigned micros =
    decimal (micros / 1000000)
    ++ (if micros % 1000000 == 0 then [] else 46 ∷ without_end_zeros (last_digits 6 (micros % 1000000)))

-- a value: a minus if it is negative, and its number without the sign
abbrev pub printed_micro : ℤ → List ℕ
printed_micro (pos micros) = printed_unsigned micros
printed_micro (negsuc before) = 45 ∷ printed_unsigned (suc before)
