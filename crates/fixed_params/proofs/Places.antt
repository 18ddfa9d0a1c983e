-- The last digits of a number, and those that are printed.
use Rattle.std.proofs.Common.{◌≡◌, ℕ, ◌+◌, ◌-◌, ◌*◌, ◌/◌, ◌%◌, ◌^◌, ◌<◌, ◌≤◌, zero, suc, true, false, List, [], ◌∷◌, ◌++◌, length, refl, sym, ap, ◌∙◌, arith, rules, inl, inr, add-one, lit<, append_assoc, append-nil, length-append}
use Rattle.std.specs.Prelude.{◌⊎◌}
use Rattle.std.specs.List.{list_all}
use Rattle.std.specs.Char.{is_ascii_digit}
use Rattle.std.specs.Str.Parse.{digits_value}
use Rattle.std.specs.Fmt.{decimal}
use Rattle.std.proofs.lemmas.Fmt.{decimal_digit, decimal_step}
use Rattle.std.proofs.Math.Arith.{mod-mul}
use Rattle.std.proofs.Math.Nat.{mul_comm, mul-add-div_right, mul-add-mod_self_right, mod-eq_of_lt}
use Rattle.std.proofs.lemmas.Bool.{and_parts, and_from, false_from_ne_true, eqb-true, le-leb}
use Rattle.std.proofs.lemmas.Nat.{div-add-mod', div-mul-add, mod_below, div_below}
use Rattle.std.proofs.lemmas.Grind.{pow_more}
use Rattle.std.proofs.lemmas.Str.Parse.{IsNumeralModel, numerals_by_weight}
use Rattle.amcp_text.specs.Numbers.{are_digits}
use Rattle.amcp_text.specs.Micros.{last_digits, without_end_zeros}
use Rattle.fixed_params.proofs.EndZeros.{is_zero, without_end_zeros_none, without_end_zeros-cons}

-- the value of digits by the weights of their places
abbrev weighed : List ℕ → ℕ
weighed [] = 0
weighed (c ∷ cs) = (c - 48) * 10 ^ length cs + weighed cs

weights : IsNumeralModel (λ ds. are_digits ds ≡ true) weighed
weights = numerals_by_weight _ (search rules) weighed (search rules)

power_next : (k : ℕ) → 10 ^ suc k ≡ 10 ^ k * 10
power_next k = rw (← add-one k) (pow_more 10 k)

pub ten_pos : (k : ℕ) → 0 < 10 ^ k
ten_pos zero = lit< tt
ten_pos (suc k) = rw (power_next k) (omega (arith, ten_pos k))

pub length-last_digits : (k n : ℕ) → length (last_digits k n) ≡ k
unfolding last_digits
length-last_digits zero n = refl
length-last_digits (suc k) n = ap suc (length-last_digits k n)

digit_byte : (x : ℕ) → x < 10 → is_ascii_digit (48 + x) ≡ true
digit_byte x small = and_from _ _ (le-leb 48 (48 + x) (omega arith)) (le-leb (48 + x) 57 (omega arith))

pub are_digits-last_digits : (k n : ℕ) → are_digits (last_digits k n) ≡ true
unfolding last_digits
are_digits-last_digits zero n = refl
are_digits-last_digits (suc k) n =
    and_from _ _ (digit_byte ((n / 10 ^ k) % 10) (mod_below (n / 10 ^ k) 10 (lit< tt))) (are_digits-last_digits k n)

weighed-last_digits : (k n : ℕ) → weighed (last_digits k n) ≡ n % 10 ^ k
unfolding last_digits
weighed-last_digits zero n = omega arith
weighed-last_digits (suc k) n =
    let digit : 48 + (n / 10 ^ k) % 10 - 48 ≡ (n / 10 ^ k) % 10 = omega arith in
    rw (digit, length-last_digits k n, weighed-last_digits k n, power_next k, mul_comm (10 ^ k) 10, mod-mul n {m = 10} {c = 10 ^ k} (lit< tt) (ten_pos k)) refl

pub digits_value-last_digits : (k n : ℕ) → digits_value 10 (last_digits k n) ≡ n % 10 ^ k
digits_value-last_digits k n =
    sym (weights.same (last_digits k n) (weights.to (last_digits k n) (are_digits-last_digits k n))) ∙ weighed-last_digits k n

-- digits above the last ones are not seen
last_digits_low : (k q s : ℕ) → last_digits k (q * 10 ^ k + s) ≡ last_digits k s
unfolding last_digits
last_digits_low zero q s = refl
last_digits_low (suc k) q s =
    let p = 10 ^ k in
    let turned : q * (p * 10) + s ≡ (q * 10) * p + s = omega arith in
    rw (power_next k, turned, mul-add-div_right (ten_pos k) (q * 10) s, mul-add-mod_self_right q 10 (s / p), last_digits_low k (q * 10) s) refl

weighed_zeros : (ds : List ℕ) → list_all is_zero ds ≡ true → weighed ds ≡ 0
weighed_zeros [] zeros = refl
weighed_zeros (d ∷ ds) zeros =
    let parts = and_parts (is_zero d) (list_all is_zero ds) zeros in
    rw (eqb-true d 48 parts.0, weighed_zeros ds parts.1) (omega arith)

-- a number that is not zero has a digit that is not zero
some_digit : (k r : ℕ) → 0 < r → r < 10 ^ k → list_all is_zero (last_digits k r) ≡ false
some_digit k r above below =
    false_from_ne_true (list_all is_zero (last_digits k r)) (λ zeros.
    let none = weighed_zeros (last_digits k r) zeros in
    let value = weighed-last_digits k r ∙ mod-eq_of_lt below in
    absurd (omega arith))

-- the first of the places that are left, and those after it
pub printed_more : (k r : ℕ) → 0 < r → r < 10 ^ suc k
    → without_end_zeros (last_digits (suc k) r) ≡ (48 + r / 10 ^ k) ∷ without_end_zeros (last_digits k (r % 10 ^ k))
unfolding last_digits
printed_more k r above below =
    let p = 10 ^ k in
    let digit : r / p < 10 = div_below r p 10 (ten_pos k) (omega (arith, power_next k)) in
    let low : last_digits k r ≡ last_digits k (r % p) = ap (last_digits k) (sym (div-add-mod' r p)) ∙ last_digits_low k (r / p) (r % p) in
    without_end_zeros-cons (48 + (r / p) % 10) (last_digits k r) (some_digit (suc k) r above below) ∙ rw (mod-eq_of_lt digit, low) refl

zeros_of_zero : (k : ℕ) → list_all is_zero (last_digits k 0) ≡ true
unfolding last_digits
zeros_of_zero zero = refl
zeros_of_zero (suc k) =
    let none : 0 / 10 ^ k ≡ 0 = omega (arith, div_below 0 (10 ^ k) 1 (ten_pos k) (omega (arith, ten_pos k))) in
    rw none (zeros_of_zero k)

-- no place is left of zero
pub printed_none : (k : ℕ) → without_end_zeros (last_digits k 0) ≡ []
printed_none k = without_end_zeros_none (last_digits k 0) (zeros_of_zero k)

-- printing a number of six places: what was written, and what is left of the number, of places and of the weight
pub record PlacesLeft (text start : List ℕ) (number rest weight : ℕ) : Type 0 where
  pub left : ℕ
  pub weight_is : weight ≡ 10 ^ left / 10
  pub below : rest < 10 ^ left
  pub room : length text + left ≤ 12
  pub told : text ++ without_end_zeros (last_digits left rest) ≡ start ++ without_end_zeros (last_digits 6 number)

pub places_start : (start : List ℕ) (number : ℕ) → number < 1000000 → length start + 6 ≤ 12 → PlacesLeft start start number number 100000
places_start start number below room = record { left = 6; weight_is = refl; below = below; room = room; told = refl }

-- the places that are left, if some are
record SomeLeft (text start : List ℕ) (number rest weight : ℕ) : Type 0 where
  after : ℕ
  weight_is : weight ≡ 10 ^ after
  below : rest < 10 ^ suc after
  room : length text + suc after ≤ 12
  told : text ++ without_end_zeros (last_digits (suc after) rest) ≡ start ++ without_end_zeros (last_digits 6 number)

tenth : (k : ℕ) → 10 ^ suc k / 10 ≡ 10 ^ k
tenth k = rw (power_next k) (omega (arith, div-mul-add (10 ^ k) 10 0 (lit< tt)))

some_left_at : (text start : List ℕ) (number rest weight left : ℕ) → weight ≡ 10 ^ left / 10 → rest < 10 ^ left → length text + left ≤ 12
    → text ++ without_end_zeros (last_digits left rest) ≡ start ++ without_end_zeros (last_digits 6 number) → 0 < rest → SomeLeft text start number rest weight
some_left_at text start number rest weight zero weight_is below room told above = absurd (omega arith)
some_left_at text start number rest weight (suc after) weight_is below room told above =
    record { after = after; weight_is = weight_is ∙ tenth after; below = below; room = room; told = told }

some_left : {text start : List ℕ} {number rest weight : ℕ} → PlacesLeft text start number rest weight → 0 < rest → SomeLeft text start number rest weight
some_left {text} {start} {number} {rest} {weight} p above =
    some_left_at text start number rest weight p.left p.weight_is p.below p.room p.told above

pub weight_above : {text start : List ℕ} {number rest weight : ℕ} → PlacesLeft text start number rest weight → 0 < rest → 0 < weight
weight_above p above =
    let s = some_left p above in
    omega (arith, s.weight_is, ten_pos s.after)

pub digit_below : {text start : List ℕ} {number rest weight : ℕ} → PlacesLeft text start number rest weight → 0 < rest → rest / weight < 10
digit_below {rest = rest} {weight = weight} p above =
    let s = some_left p above in
    rw s.weight_is (div_below rest (10 ^ s.after) 10 (ten_pos s.after) (omega (arith, s.below, power_next s.after)))

pub room_left : {text start : List ℕ} {number rest weight : ℕ} → PlacesLeft text start number rest weight → 0 < rest → length text < 12
room_left p above =
    let s = some_left p above in
    omega (arith, s.room)

next_at : (text text' start : List ℕ) (number rest weight after : ℕ) → weight ≡ 10 ^ after → rest < 10 ^ suc after → length text + suc after ≤ 12
    → text ++ without_end_zeros (last_digits (suc after) rest) ≡ start ++ without_end_zeros (last_digits 6 number) → 0 < rest
    → text' ≡ text ++ (48 + rest / weight) ∷ [] → PlacesLeft text' start number (rest % weight) (weight / 10)
next_at text text' start number rest weight after weight_is below room told above e =
    let more = rw (printed_more after rest above below) at told in
    record {
      left = after;
      weight_is = ap (λ (w : ℕ). w / 10) weight_is;
      below = rw weight_is (mod_below rest (10 ^ after) (ten_pos after));
      room = omega (arith, ap length e, length-append text ((48 + rest / weight) ∷ []));
      told = rw (e, weight_is) (append_assoc text ((48 + rest / 10 ^ after) ∷ []) (without_end_zeros (last_digits after (rest % 10 ^ after))) ∙ more);
    }

-- one more place is printed
pub places_next : (text' : List ℕ) {text start : List ℕ} {number rest weight : ℕ} → PlacesLeft text start number rest weight → 0 < rest
    → text' ≡ text ++ (48 + rest / weight) ∷ [] → PlacesLeft text' start number (rest % weight) (weight / 10)
places_next text' {text} {start} {number} {rest} {weight} p above e =
    let s = some_left p above in
    next_at text text' start number rest weight s.after s.weight_is s.below s.room s.told above e

-- nothing is left to print
pub places_end : {text start : List ℕ} {number rest weight : ℕ} → PlacesLeft text start number rest weight → rest ≡ 0
    → text ≡ start ++ without_end_zeros (last_digits 6 number)
places_end {text} p none =
    let told = rw (none, printed_none p.left, append-nil text) at p.told in told

-- the last digit of a number is printed after those before it
pub number_done : (text before : List ℕ) (n : ℕ) → n < 2 ^ 64 → ((10 ≤ n) × (before ≡ text ++ decimal (n / 10))) ⊎ ((n < 10) × (before ≡ text))
    → before ++ (48 + n % 10) ∷ [] ≡ text ++ decimal n
number_done text before n small (inl (long, e)) =
    rw (e, decimal_step n long small) (append_assoc text (decimal (n / 10)) ((48 + n % 10) ∷ []))
number_done text before n small (inr (short, e)) =
    rw (e, mod-eq_of_lt short, decimal_digit n short) refl
