-- The digits of a text, one by one.
use Rattle.std.proofs.Common.{◌≡◌, ℕ, ◌+◌, ◌-◌, ◌*◌, ◌<◌, ◌≤◌, ◌^◌, min, true, List, ◌++◌, take, length, get_or, replicate, refl, ◌∙◌, arith, rules}
use Rattle.std.specs.Str.Parse.{digits_value}
use Rattle.std.specs.Char.{digit_value}
use Rattle.std.proofs.lemmas.Str.{digit_value_digit}
use Rattle.std.proofs.lemmas.Str.Parse.{IsNumeralModel, numerals_by_value, digit_at}
use Rattle.std.proofs.lemmas.Int.Digits.{digits_value_more}
use Rattle.std.proofs.lemmas.Grind.{pow_more}
use Rattle.std.proofs.lemmas.List.{length-take, length-append, length-replicate, get_or-take, get_or_append_left, get_or-append_right, get_or-replicate}
use Rattle.amcp_text.specs.Numbers.{are_digits, six_places}

-- texts of digits and their values are those of numerals
pub own : IsNumeralModel (λ ds. are_digits ds ≡ true) (digits_value 10)
own = numerals_by_value _ (search rules)

pub digit_here : (digits : List ℕ) (i : ℕ) → are_digits digits ≡ true → i < length digits
    → (48 ≤ get_or digits i 0) × (get_or digits i 0 ≤ 57) × (digit_value (get_or digits i 0) + 48 ≡ get_or digits i 0)
digit_here digits i all inside =
    let here = digit_at digits i (own.to digits all) inside in
    (here.0, here.1, digit_value_digit (get_or digits i 0) here)

-- one more digit, under a cap
pub capped_more : (digits : List ℕ) (i value cap : ℕ) → are_digits digits ≡ true → i < length digits → value ≡ min (digits_value 10 (take i digits)) cap
    → min (value * 10 + (get_or digits i 0 - 48)) cap ≡ min (digits_value 10 (take (i + 1) digits)) cap
capped_more digits i value cap all inside e =
    let here = digit_here digits i all inside in
    rw (digits_value_more 10 digits i inside) (omega (arith, here.0, here.2, e))

length-six_places : (digits : List ℕ) → length (six_places digits) ≡ 6
length-six_places digits = omega (arith, length-take 6 (digits ++ replicate 6 48), length-append digits (replicate 6 48), length-replicate {A = ℕ} 6 48)

-- the digits after a point, and then zeros
pub place_inside : (digits : List ℕ) (i : ℕ) → i < 6 → i < length digits → get_or (six_places digits) i 0 ≡ get_or digits i 0
place_inside digits i early inside =
    get_or-take 6 (digits ++ replicate 6 48) i 0 early ∙ get_or_append_left digits (replicate 6 48) 0 i inside

pub place_past : (digits : List ℕ) (i : ℕ) → i < 6 → length digits ≤ i → get_or (six_places digits) i 0 ≡ 48
place_past digits i early past =
    get_or-take 6 (digits ++ replicate 6 48) i 0 early ∙ get_or-append_right digits (replicate 6 48) (length digits) i 0 refl past
    ∙ get_or-replicate 6 (i - length digits) 48 0 (omega arith)

-- one more of the six places
pub places_more : (digits : List ℕ) (i value digit : ℕ) → i < 6 → digit_value (get_or (six_places digits) i 0) ≡ digit → digit ≤ 9
    → value ≡ digits_value 10 (take i (six_places digits)) → value < 10 ^ i
    → (value * 10 + digit ≡ digits_value 10 (take (i + 1) (six_places digits))) × (value * 10 + digit < 10 ^ (i + 1))
places_more digits i value digit early here small e below =
    let inside : i < length (six_places digits) = omega (arith, length-six_places digits) in
    (rw (digits_value_more 10 (six_places digits) i inside, here, ← e) refl, rw (pow_more 10 i) (omega arith))
