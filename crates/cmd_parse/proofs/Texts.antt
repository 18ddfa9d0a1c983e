-- Words as bytes and as characters.
use Rattle.std.proofs.Common.{◌≡◌, ℕ, ◌+◌, ◌<◌, ◌≤◌, Bool, true, false, List, [], ◌∷◌, ◌++◌, take, drop, get_or, refl, sym, ap, ◌∙◌, arith, inl, inr, suc, zero}
use lib.Utf8.{scalar}
use Rattle.std.specs.Prelude.{encode_utf8, encode_utf8_all, ◌==◌}
use Rattle.std.specs.List.{list_any, before_first, after_first, position_or_len}
use Rattle.std.specs.Str.{IsUtf8, all_scalars, chars, bytes_eq}
use Rattle.std.proofs.lemmas.Str.{IsUtf8-from_ascii, encodes-chars, chars-encodes, scalars-chars, chars-IsAscii, encode_ascii, encodes-append}
use Rattle.std.proofs.lemmas.Str.Ascii.{IsAscii-nil, IsAscii-cons}
use Rattle.std.proofs.lemmas.List.Folds.{list_any_none, list_any-append}
use Rattle.std.proofs.lemmas.Bool.{cases_lt, and_parts, eqb-true}
use Rattle.std.proofs.lemmas.List.{get_or_default}
use Rattle.std.proofs.lemmas.Bool.Decides.{nat_tests}
use Rattle.amcp_text.proofs.FirstEnd.{before_first_at, before_first_none, after_first_at, list_any-before_first, cut_at_first}
use Rattle.play_types.proofs.Texts.{bytes_eq-chars}
use Rattle.play_types.proofs.Letters.{high_bytes}

-- a character is the one that is looked for
abbrev pub is_char : ℕ → ℕ → Bool
is_char sought c = c == sought

-- a character beyond ASCII is not that one, and none of its bytes is
not_high : (sought c : ℕ) → sought < 128 → 128 ≤ c → is_char sought c ≡ false
not_high sought c low high = grind (arith, nat_tests)

other_bytes : (sought c : ℕ) → sought < 128 → 128 ≤ c → list_any (is_char sought) (encode_utf8 c) ≡ false
other_bytes sought c low high =
    list_any_none (is_char sought) (encode_utf8 c)
    (λ k d inside.
    let above : 128 ≤ get_or (encode_utf8 c) k d =
    omega (arith, get_or_default (encode_utf8 c) k d 0 inside, high_bytes c k high inside) in
    not_high sought (get_or (encode_utf8 c) k d) low above)

-- a text has an ASCII character exactly if its bytes have it
pub list_any-encodes : (sought : ℕ) → sought < 128 → (cs : List ℕ) → list_any (is_char sought) (encode_utf8_all cs) ≡ list_any (is_char sought) cs
list_any-encodes sought low [] = refl
list_any-encodes sought low (c ∷ cs) = elim (cases_lt c 128) [
  | inl ascii ↦ rw (encode_ascii c ascii, list_any-encodes sought low cs) refl
  | inr high ↦
      rw (list_any-append (is_char sought) (encode_utf8 c) (encode_utf8_all cs), other_bytes sought c low high, list_any-encodes sought low cs, not_high sought c low high) refl
]

-- the parts before and after the first ASCII character that is looked for, by the bytes
record Halves (sought : ℕ) (cs : List ℕ) : Type 0 where
  before : before_first (is_char sought) (encode_utf8_all cs) ≡ encode_utf8_all (before_first (is_char sought) cs)
  after : after_first (is_char sought) (encode_utf8_all cs) ≡ encode_utf8_all (after_first (is_char sought) cs)

halves : (sought : ℕ) → sought < 128 → (cs : List ℕ) → list_any (is_char sought) cs ≡ true → Halves sought cs
halves sought low cs some =
    let p = is_char sought in
    let cut = cut_at_first p cs some in
    let prefix = before_first p cs in
    let back = after_first p cs in
    let ascii : cut.at < 128 = omega (arith, eqb-true cut.at sought cut.passes) in
    let whole : encode_utf8_all cs ≡ encode_utf8_all prefix ++ cut.at ∷ encode_utf8_all back =
    ap encode_utf8_all cut.whole ∙ encodes-append prefix (cut.at ∷ back)
    ∙ ap (λ bs. encode_utf8_all prefix ++ (bs ++ encode_utf8_all back)) (encode_ascii cut.at ascii) in
    let none = list_any-encodes sought low prefix ∙ list_any-before_first p cs in
    record {
      before = ap (before_first p) whole ∙ before_first_at p (encode_utf8_all prefix) cut.at (encode_utf8_all back) none cut.passes;
      after = ap (after_first p) whole ∙ after_first_at p (encode_utf8_all prefix) cut.at (encode_utf8_all back) none cut.passes;
    }

-- parts of a text's characters are characters
scalars-take : (n : ℕ) (cs : List ℕ) → all_scalars cs ≡ true → all_scalars (take n cs) ≡ true
scalars-take zero cs h = refl
scalars-take (suc n) [] h = refl
scalars-take (suc n) (c ∷ cs) h =
    let parts = and_parts (scalar c) (all_scalars cs) h in rw (parts.0, scalars-take n cs parts.1) refl

scalars-drop : (n : ℕ) (cs : List ℕ) → all_scalars cs ≡ true → all_scalars (drop n cs) ≡ true
scalars-drop zero cs h = h
scalars-drop (suc n) [] h = refl
scalars-drop (suc n) (c ∷ cs) h =
    let parts = and_parts (scalar c) (all_scalars cs) h in scalars-drop n cs parts.1

-- a text without the ASCII character that is looked for
pub chars_without : (sought : ℕ) → sought < 128 → (text : List ℕ) → IsUtf8 text → list_any (is_char sought) text ≡ false
    → (list_any (is_char sought) (chars text) ≡ false) × (before_first (is_char sought) (chars text) ≡ chars text)
chars_without sought low text utf8 none =
    let without : list_any (is_char sought) (chars text) ≡ false =
    sym (list_any-encodes sought low (chars text)) ∙ ap (list_any (is_char sought)) (encodes-chars text utf8) ∙ none in
    (without, before_first_none (is_char sought) (chars text) without)

-- the characters of a text, cut at the first ASCII character that is looked for
pub record CutText (sought : ℕ) (text : List ℕ) : Type 0 where
  pub has : list_any (is_char sought) (chars text) ≡ true
  pub before : before_first (is_char sought) (chars text) ≡ chars (before_first (is_char sought) text)
  pub after : after_first (is_char sought) (chars text) ≡ chars (after_first (is_char sought) text)

pub cut_text : (sought : ℕ) → sought < 128 → (text : List ℕ) → IsUtf8 text → list_any (is_char sought) text ≡ true → CutText sought text
cut_text sought low text utf8 some =
    let p = is_char sought in
    let same = encodes-chars text utf8 in
    let has : list_any p (chars text) ≡ true = sym (list_any-encodes sought low (chars text)) ∙ ap (list_any p) same ∙ some in
    let parts = halves sought low (chars text) has in
    let all = scalars-chars text utf8 in
    record {
      has = has;
      before = sym (chars-encodes (before_first p (chars text)) (scalars-take (position_or_len p (chars text)) (chars text) all))
          ∙ ap chars (sym parts.before ∙ ap (before_first p) same);
      after = sym (chars-encodes (after_first p (chars text)) (scalars-drop (position_or_len p (chars text) + 1) (chars text) all))
          ∙ ap chars (sym parts.after ∙ ap (after_first p) same);
    }

-- a text is one ASCII character exactly if its bytes are that one byte
pub one_char : (c : ℕ) → c < 128 → (text : List ℕ) → IsUtf8 text → bytes_eq (chars text) (c ∷ []) ≡ bytes_eq text (c ∷ [])
one_char c ascii text utf8 =
    let one = IsAscii-cons c [] ascii IsAscii-nil in
    ap (bytes_eq (chars text)) (sym (chars-IsAscii (c ∷ []) one)) ∙ sym (bytes_eq-chars text (c ∷ []) utf8 (IsUtf8-from_ascii (c ∷ []) one))
