-- Seeds of generated scripts, read as numbers of 64 bits.
use Rattle.std.proofs.Common.{◌≡◌, ◌≢◌, ℕ, ◌^◌, ◌<◌, ◌&&◌, Bool, true, false, List, [], ◌∷◌, length, get_or, refl, sym, ap, ◌∙◌, arith}
use Rattle.std.specs.Prelude.{if◌then◌else◌, Some, None, option_and_then, Result, Ok, Err}
use Rattle.std.specs.Result.{OkIff, result_ok}
use Rattle.std.specs.Char.{is_ascii_digit}
use Rattle.std.specs.List.{list_all}
use Rattle.std.specs.Str.{all_ascii_digits}
use Rattle.std.specs.Str.Parse.{ParsesUnsigned, digits_value}
use Rattle.std.proofs.lemmas.Bool.{false≢true}
use Rattle.std.proofs.lemmas.Bool.Decides.{nat_tests}
use Rattle.std.proofs.lemmas.Str.Parse.{numerals_by_value, parse_plain, tells_all_ascii_digits}
use Rattle.amcp_text.specs.Numbers.{number_within, within}
use Rattle.amcp_text.proofs.Digits.{number_within-digits, within-both}
use Rattle.run_script.specs.declared.command_line.TheConstants.{MAX_SEED}

-- the two definitions of 'digits alone' agree
same_digits : (text : List ℕ) → all_ascii_digits text ≡ list_all is_ascii_digit text
same_digits [] = refl
same_digits (c ∷ cs) = ap (λ (b : Bool). is_ascii_digit c && b) (same_digits cs)

-- a text that is no number gives none
none_by : (some digits : Bool) (value : ℕ) → digits ≡ false → None ≡ option_and_then (within 0 MAX_SEED) (if some && digits then Some value else None)
none_by true true value other = absurd (false≢true (sym other))
none_by true false value other = refl
none_by false digits value other = refl

above : (most value : ℕ) → most < value → None ≡ within 0 most value
above most value more = grind (arith, nat_tests)

-- a text that is no number of 64 bits gives none
by_digits : (text : List ℕ) (b : Bool) → list_all is_ascii_digit text ≡ b → 0 < length text
    → ((all_ascii_digits text ≡ true) × (0 < length text) × (digits_value 10 text < 2 ^ 64) → ⊥) → None ≡ number_within 0 MAX_SEED text
by_digits text false is some refused = none_by _ _ (digits_value 10 text) is
by_digits text true is some refused =
    let large : digits_value 10 text < 2 ^ 64 → ⊥ = λ small. refused (same_digits text ∙ is, some, small) in
    above MAX_SEED (digits_value 10 text) (omega (arith, large)) ∙ sym (number_within-digits 0 MAX_SEED text some is)

module _ {E : Type 0} where
  by_result : (r : Result ℕ E) (text : List ℕ)
      → OkIff r ((all_ascii_digits text ≡ true) × (0 < length text) × (digits_value 10 text < 2 ^ 64)) (digits_value 10 text)
      → result_ok r ≡ number_within 0 MAX_SEED text
  by_result (Ok value) text (told, is) =
      let small = told.2 in
      ap Some is ∙ sym (within-both 0 MAX_SEED (digits_value 10 text) (omega arith) (omega (arith, small)))
      ∙ sym (number_within-digits 0 MAX_SEED text told.1 (sym (same_digits text) ∙ told.0))
  by_result (Err e) [] refused = refl
  by_result (Err e) (c ∷ cs) refused = by_digits (c ∷ cs) (list_all is_ascii_digit (c ∷ cs)) refl (omega arith) refused

  -- a word that does not begin with a plus is read as the number within the bounds
  pub seed_parsed : (r : Result ℕ E) (text : List ℕ) → get_or text 0 0 ≢ 43 → ParsesUnsigned 64 10 text r → result_ok r ≡ number_within 0 MAX_SEED text
  seed_parsed r text other parses = by_result r text (parse_plain (numerals_by_value _ tells_all_ascii_digits) 64 text r parses other)
