-- Texts by their characters and by their bytes.
use Rattle.std.proofs.Common.{◌≡◌, ℕ, ◌<◌, ◌≤◌, true, false, cond, ◌==◌, List, [], ◌∷◌, ◌++◌, length, get_or, Some, None, refl, sym, ap, subst, ◌∙◌, append_assoc, append-nil, arith, inl, inr}
use Rattle.std.specs.Prelude.{encode_utf8, encode_utf8_all, nat_lt, chars}
use Rattle.std.specs.List.{list_any}
use Rattle.std.specs.Str.{IsUtf8, is_utf8}
use Rattle.std.proofs.lemmas.Str.{IsUtf8-from_is_utf8, is_utf8-from_IsUtf8, encodes-chars, chars-encodes, scalars-chars, encode_ascii, length-encode, len_utf8_bounds}
use Rattle.std.proofs.lemmas.List.{get_or_default}
use Rattle.std.proofs.lemmas.List.Folds.{list_any_none, list_any-append}
use Rattle.std.proofs.lemmas.Bool.{cases_lt, cases_Bool, and_parts, ltb-true}
use Rattle.std.proofs.lemmas.Bool.Decides.{nat_tests}
use Rattle.std.proofs.lemmas.Option.{same_Some}
use Rattle.play_types.proofs.Letters.{high_bytes}
use Rattle.osc_status.specs.Texts.{IsText, is_zero, text_bytes, without_zeros}
use Rattle.osc_status.specs.Message.{begins_with}
use Rattle.osc_status.specs.inner.Reading.{padded_at, text_at}
use Rattle.osc_status.specs.inner.Plain.{are_plain, is_plain}
use Rattle.osc_status.proofs.Padded.{bind_some, passed, padded_again, padded_takes}

high_is_not_zero : (c : ℕ) → 128 ≤ c → is_zero c ≡ false
high_is_not_zero c high = grind (arith, nat_tests)

-- no byte of a character beyond ASCII is zero
high_has_no_zero : (c : ℕ) → 128 ≤ c → list_any is_zero (encode_utf8 c) ≡ false
high_has_no_zero c high =
    list_any_none is_zero (encode_utf8 c)
    (λ k d inside.
    let above : 128 ≤ get_or (encode_utf8 c) k d =
    omega (arith, get_or_default (encode_utf8 c) k d 0 inside, high_bytes c k high inside) in
    high_is_not_zero (get_or (encode_utf8 c) k d) above)

-- a text has a zero character exactly if its bytes have one
pub zeros-encoded : (cs : List ℕ) → list_any is_zero (encode_utf8_all cs) ≡ list_any is_zero cs
zeros-encoded [] = refl
zeros-encoded (c ∷ cs) = elim (cases_lt c 128) [
  | inl ascii ↦ rw (encode_ascii c ascii, zeros-encoded cs) refl
  | inr high ↦
      rw (list_any-append is_zero (encode_utf8 c) (encode_utf8_all cs), high_has_no_zero c high, zeros-encoded cs, high_is_not_zero c high) refl
]

-- nothing is left out if nothing is zero
pub without_zeros-whole : (bytes : List ℕ) → list_any is_zero bytes ≡ false → without_zeros bytes ≡ bytes
without_zeros-whole [] none = refl
without_zeros-whole (b ∷ bytes) none = elim (cases_Bool (is_zero b)) [
  | inl zero ↦ absurd (cc (rw zero at none))
  | inr other ↦ rw (other, without_zeros-whole bytes (rw other at none)) refl
]

pub without_zeros-append : (one other : List ℕ) → without_zeros (one ++ other) ≡ without_zeros one ++ without_zeros other
without_zeros-append [] other = refl
without_zeros-append (b ∷ one) other = elim (cases_Bool (is_zero b)) [
  | inl zero ↦ rw (zero, without_zeros-append one other) refl
  | inr another ↦ rw (another, without_zeros-append one other) refl
]

-- the zero characters of a text are the zero bytes of its bytes
pub without_zeros-encoded : (cs : List ℕ) → without_zeros (encode_utf8_all cs) ≡ encode_utf8_all (without_zeros cs)
without_zeros-encoded [] = refl
without_zeros-encoded (c ∷ cs) = elim (cases_lt c 128) [
  | inl ascii ↦ elim (cases_Bool (is_zero c)) [
    | inl zero ↦ rw (encode_ascii c ascii, zero, without_zeros-encoded cs) refl
    | inr other ↦ rw (encode_ascii c ascii, other, without_zeros-encoded cs) (rw (encode_ascii c ascii) refl)
  ]
  | inr high ↦
      rw (without_zeros-append (encode_utf8 c) (encode_utf8_all cs), without_zeros-whole (encode_utf8 c) (high_has_no_zero c high), without_zeros-encoded cs, high_is_not_zero c high) refl
]

-- the bytes of a name without its zero characters
pub name_bytes : (name : List ℕ) → IsUtf8 name → encode_utf8_all (without_zeros (chars name)) ≡ without_zeros name
name_bytes name utf8 = sym (without_zeros-encoded (chars name)) ∙ ap without_zeros (encodes-chars name utf8)

-- a word that is written without a zero byte is a text of its characters
pub IsText-chars : (word : List ℕ) → IsUtf8 word → list_any is_zero word ≡ false → IsText (chars word)
IsText-chars word utf8 whole = record {
  scalars = scalars-chars word utf8;
  whole = sym (zeros-encoded (chars word)) ∙ ap (list_any is_zero) (encodes-chars word utf8) ∙ whole;
}

pub written-word : (word : List ℕ) → IsUtf8 word → list_any is_zero word ≡ false → without_zeros word ++ [] ≡ encode_utf8_all (chars word)
written-word word utf8 whole = append-nil (without_zeros word) ∙ without_zeros-whole word whole ∙ sym (encodes-chars word utf8)

-- a text of characters that are neither zero nor beyond ASCII
pub plain_whole : (text : List ℕ) → are_plain text ≡ true → list_any is_zero text ≡ false
plain_whole [] plain = refl
plain_whole (c ∷ text) plain =
    let parts = and_parts (is_plain c) (are_plain text) plain in
    let low = and_parts (nat_lt 0 c) (nat_lt c 128) parts.0 in
    let other : is_zero c ≡ false = grind (arith, nat_tests, ltb-true 0 c low.0) in
    rw (other, plain_whole text parts.1) refl

pub plain_encoded : (text : List ℕ) → are_plain text ≡ true → encode_utf8_all text ≡ text
plain_encoded [] plain = refl
plain_encoded (c ∷ text) plain =
    let parts = and_parts (is_plain c) (are_plain text) plain in
    let low = and_parts (nat_lt 0 c) (nat_lt c 128) parts.0 in
    rw (encode_ascii c (ltb-true c 128 low.1), plain_encoded text parts.1) refl

pub plain_kept : (text : List ℕ) → are_plain text ≡ true → without_zeros text ≡ text
plain_kept text plain = without_zeros-whole text (plain_whole text plain)

pub plain_word : (text : List ℕ) → are_plain text ≡ true → encode_utf8_all (without_zeros text) ≡ text
plain_word text plain = rw (plain_kept text plain) (plain_encoded text plain)

pub plain-append : (one other : List ℕ) → are_plain one ≡ true → are_plain other ≡ true → are_plain (one ++ other) ≡ true
plain-append [] other first second = second
plain-append (c ∷ one) other first second =
    let parts = and_parts (is_plain c) (are_plain one) first in
    rw (parts.0, plain-append one other parts.1 second) refl

-- a text that is found has its bytes and its padding there
pub text_takes : (bytes cs rest : List ℕ) → text_at bytes ≡ Some (cs, rest) → IsText cs × (bytes ≡ text_bytes cs ++ rest)
unfolding text_at
text_takes bytes cs rest e =
    let a = bind_some (padded_at bytes) (λ found. cond (is_utf8 found.0) (Some (chars found.0, found.1)) None) (cs, rest) e in
    let word = a.0.0 in
    let g = passed (is_utf8 word) (Some (chars word, a.0.1)) (cs, rest) a.2 in
    let utf8 = IsUtf8-from_is_utf8 word g.0 in
    let t = padded_takes bytes word a.0.1 a.1 in
    subst (λ (p : List ℕ × List ℕ). IsText p.0 × (bytes ≡ text_bytes p.0 ++ p.1)) (same_Some (chars word, a.0.1) (cs, rest) g.1) (
      IsText-chars word utf8 t.0,
      rw (encodes-chars word utf8) t.1,
    )

-- a text is found, whatever follows it
pub text_again : (cs rest : List ℕ) → IsText cs → text_at (text_bytes cs ++ rest) ≡ Some (cs, rest)
unfolding text_at
text_again cs rest is =
    let utf8 : IsUtf8 (encode_utf8_all cs) = (cs, (is.scalars, refl)) in
    rw (padded_again (encode_utf8_all cs) rest (zeros-encoded cs ∙ is.whole))
    (rw (is_utf8-from_IsUtf8 (encode_utf8_all cs) utf8, chars-encodes cs is.scalars) refl)

-- bytes that begin with one beyond ASCII begin with no ASCII character
begins-high : (first : ℕ) (bytes more : List ℕ) → 0 < length bytes → 128 ≤ get_or bytes 0 0 → first < 128 → begins_with first (bytes ++ more) ≡ false
begins-high first [] more some high low = absurd (omega (arith, some))
begins-high first (b ∷ bytes) more some high low = grind (arith, nat_tests)

-- the bytes of a character begin with an ASCII character exactly if they are its own
pub begins-encode : (first c : ℕ) (more : List ℕ) → first < 128 → begins_with first (encode_utf8 c ++ more) ≡ (c == first)
begins-encode first c more low = elim (cases_lt c 128) [
  | inl ascii ↦ rw (encode_ascii c ascii) refl
  | inr high ↦
      let some : 0 < length (encode_utf8 c) = omega (arith, length-encode c, (len_utf8_bounds c).0) in
      let other : (c == first) ≡ false = grind (arith, nat_tests) in
      begins-high first (encode_utf8 c) more some (high_bytes c 0 high some) low ∙ sym other
]

-- a text begins with an ASCII character exactly if its bytes do, with their padding or without it
pub begins-padded : (first : ℕ) (cs rest : List ℕ) → 0 < first → first < 128 → begins_with first (text_bytes cs ++ rest) ≡ begins_with first cs
begins-padded first [] rest some low = grind (arith, nat_tests)
begins-padded first (c ∷ cs) rest some low =
    rw (append_assoc, append_assoc) (begins-encode first c _ low)

begins-encoded : (first : ℕ) (cs : List ℕ) → first < 128 → begins_with first (encode_utf8_all cs) ≡ begins_with first cs
begins-encoded first [] low = refl
begins-encoded first (c ∷ cs) low = begins-encode first c (encode_utf8_all cs) low

pub begins-chars : (first : ℕ) (text : List ℕ) → first < 128 → IsUtf8 text → begins_with first (chars text) ≡ begins_with first text
begins-chars first text low utf8 =
    sym (begins-encoded first (chars text) low) ∙ ap (begins_with first) (encodes-chars text utf8)
