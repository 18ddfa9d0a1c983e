-- How many bytes printed words take.
use Rattle.std.proofs.Common.{◌≡◌, ℕ, zero, suc, ◌+◌, ◌-◌, ◌/◌, ◌%◌, ◌≤◌, ◌==◌, Bool, true, false, List, [], ◌∷◌, ◌++◌, length, ℤ, pos, negsuc, refl, ap, arith, inl, inr, length-append}
use Rattle.std.specs.Prelude.{decimal}
use Rattle.std.specs.Fmt.{digits, digits_onto, digit_glyph}
use Rattle.std.specs.List.{suffix_len}
use Rattle.std.specs.Str.{all_scalars}
use Rattle.std.proofs.lemmas.Bool.{cases_Bool}
use Rattle.std.proofs.lemmas.Fmt.{length-decimal-le}
use Rattle.std.proofs.lemmas.List.{length-take}
use Rattle.amcp_text.specs.Micros.{last_digits, printed_micro, printed_unsigned, without_end_zeros}
use Rattle.history_model.specs.text.Commands.{Word, Plain, Quoted, flag_words, micro_word, number_word}
use Rattle.cmd_print.specs.inner.Bytes.{spaced, word_bytes}
use Rattle.cmd_print.proofs.Spaced.{spaced-append}

-- the names among the words are texts
abbrev pub IsNameWord : Word → Type 0
IsNameWord (Plain word) = Unit {0}
IsNameWord (Quoted name) = all_scalars name ≡ true

abbrev pub HaveTexts : List Word → Type 0
HaveTexts [] = Unit {0}
HaveTexts (word ∷ words) = IsNameWord word × HaveTexts words

-- words that take at most this number of bytes, each after a space
pub record Take (words : List Word) (most : ℕ) : Type 0 where
  pub texts : HaveTexts words
  pub within : length (spaced words) ≤ most

pub Take-none : Take [] 0
unfolding spaced
Take-none = record { texts = tt; within = omega arith }

pub Take-cons : (word : Word) (words : List Word) (one most : ℕ) → IsNameWord word → length (word_bytes word) ≤ one → Take words most
    → Take (word ∷ words) (1 + one + most)
unfolding spaced
Take-cons word words one most text short h =
    let within = h.within in
    record { texts = (text, h.texts); within = omega (arith, short, within, length-append (32 ∷ word_bytes word) (spaced words)) }

both_texts : (xs ys : List Word) → HaveTexts xs → HaveTexts ys → HaveTexts (xs ++ ys)
both_texts [] ys first last = last
both_texts (word ∷ xs) ys first last = (first.0, both_texts xs ys first.1 last)

pub Take-append : (xs ys : List Word) (a b : ℕ) → Take xs a → Take ys b → Take (xs ++ ys) (a + b)
Take-append xs ys a b first last =
    let x = first.within in
    let y = last.within in
    record {
      texts = both_texts xs ys first.texts last.texts;
      within = omega (arith, x, y, ap length (spaced-append xs ys), length-append (spaced xs) (spaced ys));
    }

pub Take-fewer : (words : List Word) (a b : ℕ) → a ≤ b → Take words a → Take words b
Take-fewer words a b more h = let within = h.within in record { texts = h.texts; within = omega (arith, more, within) }

-- a word alone
pub Take-one : (word : List ℕ) (most : ℕ) → length word ≤ most → Take (Plain word ∷ []) (1 + most + 0)
Take-one word most short = Take-cons (Plain word) [] most 0 tt short Take-none

pub Take-flag : (is_set : Bool) (word : List ℕ) (most : ℕ) → length word ≤ most → Take (flag_words is_set word) (1 + most + 0)
Take-flag true word most short = Take-one word most short
Take-flag false word most short = Take-fewer [] 0 (1 + most + 0) (omega arith) Take-none

-- a number has at most 64 digits, whatever it is
digits_most : (k n : ℕ) (after : List ℕ) → length (digits_onto k 10 false n after) ≤ k + length after
digits_most zero n after = omega arith
digits_most (suc k) n after = elim (cases_Bool (n / 10 == 0)) [
  | inl last ↦ rw last (omega arith)
  | inr more ↦ rw more (omega (arith, digits_most k (n / 10) (digit_glyph false (n % 10) ∷ after)))
]

length_any : (n : ℕ) → length (decimal n) ≤ 64
unfolding digits
length_any n = omega (arith, digits_most 64 n [])

length-last_digits : (count n : ℕ) → length (last_digits count n) ≡ count
unfolding last_digits
length-last_digits zero n = refl
length-last_digits (suc count) n = omega (arith, length-last_digits count n)

length_unsigned : (n : ℕ) → length (printed_unsigned n) ≤ 71
length_unsigned n = elim (cases_Bool (n % 1000000 == 0)) [
  | inl whole ↦ rw whole (omega (arith, length_any (n / 1000000), length-append (decimal (n / 1000000)) []))
  | inr part ↦
      let places = last_digits 6 (n % 1000000) in
      rw part (omega (
        arith,
        length_any (n / 1000000),
        length-append (decimal (n / 1000000)) (46 ∷ without_end_zeros places),
        length-take (length places - suffix_len (λ c. c == 48) places) places,
        length-last_digits 6 (n % 1000000),
      ))
]

length_micro : (value : ℤ) → length (printed_micro value) ≤ 72
length_micro (pos n) = omega (arith, length_unsigned n)
length_micro (negsuc n) = omega (arith, length_unsigned (suc n))

-- numbers of a setting
pub Take-micro : (value : ℤ) (words : List Word) (most : ℕ) → Take words most → Take (micro_word value ∷ words) (1 + 72 + most)
Take-micro value words most h = Take-cons (micro_word value) words 72 most tt (length_micro value) h

-- a number up to a million
pub Take-number : (n : ℕ) (words : List Word) (most : ℕ) → n ≤ 1000000 → Take words most → Take (number_word n ∷ words) (1 + 7 + most)
Take-number n words most few h =
    Take-cons (number_word n) words 7 most tt (length-decimal-le 7 n (omega arith) (omega (arith, few)) (omega (arith, few))) h
