-- What is printed reads back to the value.
use Rattle.std.proofs.Common.{◌≡◌, ℕ, ◌+◌, ◌-◌, ◌*◌, ◌/◌, ◌%◌, ◌^◌, ◌<◌, ◌≤◌, zero, suc, true, false, List, [], ◌∷◌, ◌++◌, take, length, get_or, replicate, ℤ, pos, negsuc, neg_ℤ, ◌≤ℤ◌, refl, ap, ◌∙◌, subst, arith, inl, inr, append-nil, lit<}
use Rattle.std.specs.Prelude.{Some, ◌==◌, nat_le}
use Rattle.std.specs.List.{before_first, after_first, list_any, list_all, suffix_len}
use Rattle.std.specs.Char.{is_ascii_digit}
use Rattle.std.specs.Fmt.{decimal}
use Rattle.std.specs.Str.Parse.{digits_value, starts_with_minus, without_leading_sign}
use Rattle.std.proofs.Math.Nat.{mod-eq_of_lt}
use Rattle.std.proofs.lemmas.Bool.{cases_eq, and_parts, and_from, or_from, ne_eqb, leb-true, lt-ltb, le-leb}
use Rattle.std.proofs.lemmas.Int.{ints}
use Rattle.std.proofs.lemmas.Nat.{mod_below}
use Rattle.std.proofs.lemmas.List.{get_or_append_left}
use Rattle.std.proofs.lemmas.Fmt.{digits_decimal, digits_value-decimal, decimal_nonempty}
use Rattle.amcp_text.specs.Numbers.{are_digits, is_point, is_unsigned_decimal, six_places, unsigned_micro}
use Rattle.amcp_text.specs.Micros.{micro_of, last_digits, without_end_zeros, printed_unsigned, printed_micro}
use Rattle.amcp_text.proofs.FirstEnd.{before_first_none, after_first_none, before_first_at, after_first_at}
use Rattle.fixed_params.proofs.Digits.{own, digit_here}
use Rattle.fixed_params.proofs.EndZeros.{is_zero, with_end_zeros}
use Rattle.fixed_params.proofs.Places.{length-last_digits, are_digits-last_digits, digits_value-last_digits}
use Rattle.fixed_params.proofs.Values.{micro_of_signed}

-- no digit is a point
no_point : (ds : List ℕ) → are_digits ds ≡ true → list_any is_point ds ≡ false
no_point [] h = refl
no_point (d ∷ ds) h =
    let parts = and_parts (is_ascii_digit d) (list_all is_ascii_digit ds) h in
    let range = and_parts (nat_le 48 d) (nat_le d 57) parts.0 in
    or_from _ _ (ne_eqb d 46 (λ e. absurd (omega (arith, leb-true 48 d range.0)))) (no_point ds parts.1)

are_digits-take : (i : ℕ) (ds : List ℕ) → are_digits ds ≡ true → are_digits (take i ds) ≡ true
are_digits-take zero ds h = refl
are_digits-take (suc i) [] h = refl
are_digits-take (suc i) (d ∷ ds) h =
    let parts = and_parts (is_ascii_digit d) (list_all is_ascii_digit ds) h in
    and_from _ _ parts.0 (are_digits-take i ds parts.1)

-- the places that are printed are read as the number that they came from
six_places-printed : (r : ℕ) → six_places (without_end_zeros (last_digits 6 r)) ≡ last_digits 6 r
six_places-printed r =
    let ds = last_digits 6 r in
    subst (λ (m : ℕ). take m (without_end_zeros ds ++ replicate m 48) ≡ ds) (length-last_digits 6 r) (with_end_zeros ds)

-- an unsigned text that reads as the number, and begins with a digit
record ReadsAs (text : List ℕ) (n : ℕ) : Type 0 where
  decimal_text : is_unsigned_decimal text ≡ true
  value : unsigned_micro text ≡ n
  first : 48 ≤ get_or text 0 0

-- a text is read by what is before its point and after it
reads_parts : (text whole places : List ℕ) (n : ℕ) → before_first is_point text ≡ whole → after_first is_point text ≡ places
    → are_digits whole ≡ true → are_digits places ≡ true → 0 < length whole → 48 ≤ get_or text 0 0
    → digits_value 10 whole * 1000000 + digits_value 10 (six_places places) ≡ n → ReadsAs text n
reads_parts text whole places n before after digits more nonempty first value = record {
  decimal_text = rw (before, after) (and_from _ _ (lt-ltb 0 (length whole + length places) (omega arith)) (and_from _ _ digits more));
  value = rw (before, after) value;
  first = first;
}

reads_unsigned : (n : ℕ) → n ≤ 1000000000 → ReadsAs (printed_unsigned n) n
reads_unsigned n small =
    let w = n / 1000000 in
    let r = n % 1000000 in
    let fits : w < 2 ^ 64 = omega arith in
    let digits = digits_decimal own w fits in
    let none = no_point (decimal w) digits in
    let nonempty = decimal_nonempty w fits in
    let first = digit_here (decimal w) 0 digits nonempty in
    let number : digits_value 10 (decimal w) ≡ w = digits_value-decimal own w fits in
    let whole_rest : w * 1000000 + r ≡ n = omega arith in
    elim (cases_eq r 0) [
      | inl zero_rest ↦
          let text : printed_unsigned n ≡ decimal w = rw zero_rest (append-nil (decimal w)) in
          let value : w * 1000000 + 0 ≡ n = omega (arith, zero_rest, whole_rest) in
          rw text (reads_parts (decimal w) (decimal w) [] n (before_first_none is_point (decimal w) none) (after_first_none is_point (decimal w) none) digits refl nonempty first.0
          (rw number value))
      | inr part ↦
          let places = without_end_zeros (last_digits 6 r) in
          let text : printed_unsigned n ≡ decimal w ++ 46 ∷ places = rw (ne_eqb r 0 part) refl in
          let more = are_digits-take (length (last_digits 6 r) - suffix_len is_zero (last_digits 6 r)) (last_digits 6 r) (are_digits-last_digits 6 r) in
          let below : r < 10 ^ 6 = mod_below n 1000000 (lit< tt) in
          let rest : digits_value 10 (six_places places) ≡ r =
          ap (digits_value 10) (six_places-printed r) ∙ digits_value-last_digits 6 r ∙ mod-eq_of_lt below in
          let begins : 48 ≤ get_or (decimal w ++ 46 ∷ places) 0 0 = rw (get_or_append_left (decimal w) (46 ∷ places) 0 0 nonempty) first.0 in
          rw text (reads_parts (decimal w ++ 46 ∷ places) (decimal w) places n (before_first_at is_point (decimal w) 46 places none refl) (after_first_at is_point (decimal w) 46 places none refl)
          digits more nonempty begins (rw (number, rest) whole_rest))
    ]

-- a text that begins with a digit has no sign
unsigned_text : (text : List ℕ) → 48 ≤ get_or text 0 0 → (starts_with_minus text ≡ false) × (without_leading_sign text ≡ text)
unsigned_text text first =
    let minus : starts_with_minus text ≡ false = ne_eqb (get_or text 0 0) 45 (λ e. absurd (omega arith)) in
    let plus : (get_or text 0 0 == 43) ≡ false = ne_eqb (get_or text 0 0) 43 (λ e. absurd (omega arith)) in
    (minus, rw (minus, plus) refl)

pub reads_back : (value : ℤ) → neg_ℤ (pos 1000000000) ≤ℤ value → value ≤ℤ pos 1000000000 → micro_of (printed_micro value) ≡ Some value
reads_back (pos n) low high =
    let small : n ≤ 1000000000 = omega (arith, ints) in
    let text = reads_unsigned n small in
    let sign = unsigned_text (printed_unsigned n) text.first in
    micro_of_signed (printed_unsigned n) ∙ rw (sign.1, sign.0, text.decimal_text, text.value, le-leb n 1000000000 small) refl
reads_back (negsuc k) low high =
    let small : suc k ≤ 1000000000 = omega (arith, ints) in
    let text = reads_unsigned (suc k) small in
    micro_of_signed (45 ∷ printed_unsigned (suc k)) ∙ rw (text.decimal_text, text.value, le-leb (suc k) 1000000000 small) refl
