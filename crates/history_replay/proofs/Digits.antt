-- Numbers that are printed are read back, and their digits are no other characters.
use Rattle.std.proofs.Common.{◌≡◌, ℕ, ◌-◌, ◌<◌, ◌≤◌, ◌^◌, ◌==◌, Bool, true, false, List, [], ◌∷◌, get_or, length, refl, ap, sym, ◌∙◌, arith}
use Rattle.std.specs.Prelude.{Some, decimal, slice_index}
use Rattle.std.specs.List.{list_all, list_any}
use Rattle.std.proofs.lemmas.Bool.{and_parts, false≢true, ne_eqb, or_from}
use Rattle.std.proofs.lemmas.Fmt.{first_decimal}
use Rattle.std.proofs.lemmas.List.Sums.{AllPass-from_list_all}
use Rattle.amcp_text.specs.Numbers.{number_within, plain_number_within}
use Rattle.cmd_print.proofs.Numbers.{number_within-decimal}

-- a character that does not pass a test is none of those that pass it
differs : (p : ℕ → Bool) (c byte : ℕ) → p byte ≡ false → p c ≡ true → (c == byte) ≡ false
differs p c byte other passes = ne_eqb c byte (λ e. absurd (false≢true (sym other ∙ ap p (sym e) ∙ passes)))

pub none_among : (p : ℕ → Bool) (byte : ℕ) (text : List ℕ) → p byte ≡ false → list_all p text ≡ true → list_any (λ c. c == byte) text ≡ false
none_among p byte [] other all = refl
none_among p byte (c ∷ text) other all =
    let parts = and_parts (p c) (list_all p text) all in
    or_from (c == byte) (list_any (λ c. c == byte) text) (differs p c byte other parts.0) (none_among p byte text other parts.1)

pub not_last : (p : ℕ → Bool) (byte : ℕ) (text : List ℕ) → p byte ≡ false → list_all p text ≡ true → 0 < length text
    → (slice_index text (length text - 1) == byte) ≡ false
not_last p byte text other all some =
    differs p (slice_index text (length text - 1)) byte other (AllPass-from_list_all p text all (length text - 1) 0 (omega (arith, some)))

-- a number without a leading zero
plain_by : (least most : ℕ) (text : List ℕ) → 48 < get_or text 0 0 → plain_number_within least most text ≡ number_within least most text
plain_by least most [] high = absurd (omega arith)
plain_by least most (c ∷ text) high =
    let other : (c == 48) ≡ false = ne_eqb c 48 (λ e. absurd (omega (arith, e, high))) in
    rw other refl

pub plain_number-decimal : (most n : ℕ) → 1 ≤ n → n ≤ most → n < 2 ^ 64 → plain_number_within 1 most (decimal n) ≡ Some n
plain_number-decimal most n low high fits =
    plain_by 1 most (decimal n) (first_decimal n (omega arith) fits) ∙ number_within-decimal 1 most n low high fits
