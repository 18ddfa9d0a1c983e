-- A line's text that is read character by character.
use Rattle.std.proofs.Common.{◌≡◌, ℕ, ◌+◌, ◌<◌, ◌≤◌, Bool, true, false, cond, not, ◌&&◌, List, [], ◌∷◌, ◌++◌, length, Ok, Err, refl, sym, ap, ◌∙◌, arith, inl, inr, append-nil, lit≤}
use Rattle.std.specs.Prelude.{Option, Some, None, is_some, unwrap_or, IfSome, ◌==◌, encode_utf8}
use Rattle.std.specs.Option.{option_to_list}
use Rattle.std.specs.Str.{IsUtf8, chars, all_scalars}
use Rattle.std.specs.Char.{len_utf8}
use Rattle.std.proofs.lemmas.Bool.{cases_Bool, eqb-true, and_parts, and_from, and_left, and_right, or_cases, ne_eqb, true≢false}
use Rattle.std.proofs.lemmas.List.{nil_from_length}
use Rattle.std.proofs.lemmas.Str.{chars-nil, chars-append, chars-encodes, chars_past_char, IsUtf8-past_char, scalars-chars, length-encode, len_utf8_ascii}
use Rattle.amcp_text.specs.Words.{Plain, Escape, Bad, escape_with, parts_of, is_blank}
use Rattle.amcp_text.specs.Tokens.{words_of}
use Rattle.amcp_text.specs.declared.token.TokenFault.TheVariants.{OpenQuote, BadEscape}
use Rattle.amcp_text.proofs.Reading.{Read, answer, begun, turned, answer_start, answer_mark, answer_letter, answer_escape, answer_gap, answer_end, answer_open, answer_bad}

-- how far a line's text was read
pub record ReaderAt : Type 0 where
  -- the bytes of the line
  pub line : List ℕ
  -- the words that ended before here
  pub words : List (List ℕ)
  -- whether a word has begun that has not ended
  pub has_begun : Bool
  -- the bytes of that word, and none if no word has begun
  pub word : List ℕ
  -- the byte at which the open quotes were opened, if quotes are open
  pub quote : Option ℕ
  -- the byte of the backslash before here, if an escape has begun
  pub escape : Option ℕ
  -- the number of bytes of the line before here
  pub offset : ℕ
  -- the bytes of the line from here on
  pub rest : List ℕ

-- what was read up to here, and if an escape has begun, up to its backslash
abbrev pub read_before : ReaderAt → Read
read_before s =
    record { words = s.words; word = cond s.has_begun (Some (chars s.word)) None; quote = s.quote; place = unwrap_or s.escape s.offset }

-- the characters that are left from there on: those of the rest, after the backslash if an escape has begun
abbrev pub unread : Option ℕ → List ℕ → List ℕ
unread None rest = chars rest
unread (Some start) rest = 92 ∷ chars rest

-- what was read and what is left give the words of the line
pub record Reads (s : ReaderAt) : Type 0 where
  pub utf8 : IsUtf8 s.rest
  pub empty : s.has_begun ≡ false → s.word ≡ []
  pub begun_at : IfSome s.escape (λ start. start + 1 ≡ s.offset)
  pub told : answer (read_before s) (parts_of (unread s.escape s.rest)) ≡ words_of (chars s.line)

-- the next character of the text, and the offset and the bytes after it
pub record IsNext (s : ReaderAt) (c offset : ℕ) (rest : List ℕ) : Type 0 where
  pub bytes : s.rest ≡ encode_utf8 c ++ rest
  pub step : offset ≡ s.offset + length (encode_utf8 c)

begun_is : (has_begun : Bool) (word : List ℕ) → (has_begun ≡ false → word ≡ []) → begun (cond has_begun (Some (chars word)) None) ≡ chars word
begun_is true word empty = refl
begun_is false word empty = sym (ap chars (empty refl) ∙ chars-nil)

parts_of-plain : (c : ℕ) (cs : List ℕ) → (c == 92) ≡ false → parts_of (c ∷ cs) ≡ Plain c ∷ parts_of cs
parts_of-plain c [] other = rw other refl
parts_of-plain c (d ∷ cs) other = rw other refl

-- a character at the end of a text
chars_push : (word : List ℕ) (c : ℕ) → IsUtf8 word → all_scalars (c ∷ []) ≡ true → chars (word ++ encode_utf8 c) ≡ chars word ++ c ∷ []
chars_push word c utf8 scalar =
    chars-append word (encode_utf8 c) utf8 ∙ ap (λ (cs : List ℕ). chars word ++ cs) (ap chars (sym (append-nil (encode_utf8 c))) ∙ chars-encodes (c ∷ []) scalar)

-- an escape has two bytes, and denotes a character
pub record IsEscape (c d : ℕ) : Type 0 where
  pub ascii : c < 128
  pub scalar : all_scalars (d ∷ []) ≡ true

is_escape : (c d : ℕ) → escape_with c ≡ Escape d → IsEscape c d
is_escape c d e = elim (cases_Bool (c == 34)) [
  | inl mark ↦
      let same : 34 ≡ d = cc (rw mark at e) in
      record { ascii = omega (arith, eqb-true c 34 mark); scalar = rw (← same) refl }
  | inr not_mark ↦ elim (cases_Bool (c == 92)) [
    | inl backslash ↦
        let same : 92 ≡ d = cc (rw (not_mark, backslash) at e) in
        record { ascii = omega (arith, eqb-true c 92 backslash); scalar = rw (← same) refl }
    | inr not_backslash ↦ elim (cases_Bool (c == 110)) [
      | inl n ↦
          let same : 10 ≡ d = cc (rw (not_mark, not_backslash, n) at e) in
          record { ascii = omega (arith, eqb-true c 110 n); scalar = rw (← same) refl }
      | inr not_n ↦
          let none : Bad ≡ Escape d = rw (not_mark, not_backslash, not_n) at e in
          cc none
    ]
  ]
]

blank_is_not : (c d : ℕ) → is_blank c ≡ true → 33 ≤ d → (c == d) ≡ false
blank_is_not c d blank other = elim (or_cases (c == 32) (c == 9) blank) [
  | inl space ↦ ne_eqb c d (λ e. absurd (omega (arith, eqb-true c 32 space)))
  | inr tab ↦ ne_eqb c d (λ e. absurd (omega (arith, eqb-true c 9 tab)))
]

-- quotes that are not open are opened, and others are closed
pub turned_none : (quote : Option ℕ) (at offset : ℕ) → is_some quote ≡ false → at ≡ offset → Some at ≡ turned quote offset
turned_none None at offset closed same = ap Some same
turned_none (Some mark) at offset closed same = cc

pub turned_some : (quote : Option ℕ) (offset : ℕ) → is_some quote ≡ true → None ≡ turned quote offset
turned_some None offset unclosed = cc
turned_some (Some mark) offset unclosed = refl

pub none_from_test : (quote : Option ℕ) → is_some quote ≡ false → quote ≡ None
none_from_test None closed = refl
none_from_test (Some mark) closed = cc

-- a character that is no blank, or is in quotes
pub no_gap_in_quotes : (c : ℕ) (quote : Option ℕ) → is_some quote ≡ true → (is_blank c && not (is_some quote)) ≡ false
no_gap_in_quotes c quote unclosed = and_right (is_blank c) (not (is_some quote)) (ap not unclosed)

pub no_gap_at_letter : (c : ℕ) (quote : Option ℕ) → is_blank c ≡ false → (is_blank c && not (is_some quote)) ≡ false
no_gap_at_letter c quote other = and_left (is_blank c) (not (is_some quote)) other

-- the end of the text
module _ {s : ReaderAt} (reads : Reads s) (ended : length s.rest ≡ 0) where
  nothing_left : chars s.rest ≡ []
  nothing_left = ap chars (nil_from_length s.rest ended) ∙ chars-nil

  pub end_in_escape : (start : ℕ) → s.escape ≡ Some start → words_of (chars s.line) ≡ Err (BadEscape start)
  end_in_escape start in_escape =
      let told = rw (in_escape, nothing_left) at reads.told in
      sym told ∙ answer_bad _ []

  pub end_in_quotes : (mark : ℕ) → s.escape ≡ None → s.quote ≡ Some mark → words_of (chars s.line) ≡ Err (OpenQuote mark)
  end_in_quotes mark no_escape unclosed =
      let told = rw (no_escape, nothing_left) at reads.told in
      sym told ∙ answer_open _ mark unclosed

  pub end_of_words : s.escape ≡ None → s.quote ≡ None
      → words_of (chars s.line) ≡ Ok (s.words ++ option_to_list (cond s.has_begun (Some (chars s.word)) None))
  end_of_words no_escape closed =
      let told = rw (no_escape, nothing_left) at reads.told in
      sym told ∙ answer_end _ closed

-- one more character of the text
module _ {s : ReaderAt} {c offset : ℕ} {rest : List ℕ} (reads : Reads s) (next : IsNext s c offset rest) where
  first_char : chars s.rest ≡ c ∷ chars rest
  first_char = chars_past_char s.rest rest c reads.utf8 next.bytes

  rest_utf8 : IsUtf8 rest
  rest_utf8 = IsUtf8-past_char s.rest rest c reads.utf8 next.bytes

  first_scalar : all_scalars (c ∷ []) ≡ true
  first_scalar =
      let each = rw first_char at (scalars-chars s.rest reads.utf8) in
      and_from _ _ ((and_parts _ _ each).0) refl

  step_ascii : c < 128 → offset ≡ s.offset + 1
  step_ascii ascii = omega (arith, next.step, length-encode c, len_utf8_ascii c ascii)

  step_plain : offset ≡ s.offset + len_utf8 c
  step_plain = rw (← length-encode c) next.step

  pub read_backslash : (at : ℕ) → at ≡ s.offset → c ≡ 92 → s.escape ≡ None
      → Reads (record s { escape = Some at; offset = offset; rest = rest })
  read_backslash at here is no_escape =
      let told = rw (no_escape, first_char, is, ← here) at reads.told in
      record {
        utf8 = rest_utf8;
        empty = reads.empty;
        begun_at = omega (arith, step_ascii (omega arith));
        told = told;
      }

  pub read_bad : (start : ℕ) → s.escape ≡ Some start → escape_with c ≡ Bad → words_of (chars s.line) ≡ Err (BadEscape start)
  read_bad start in_escape bad =
      let told = rw (in_escape, first_char, bad) at reads.told in
      sym told ∙ answer_bad _ (parts_of (chars rest))

  pub read_escape : (start d : ℕ) → s.escape ≡ Some start → escape_with c ≡ Escape d → IsUtf8 s.word
      → Reads (record s { has_begun = true; word = s.word ++ encode_utf8 d; escape = None; offset = offset; rest = rest })
  read_escape start d in_escape escape utf8 =
      let is = is_escape c d escape in
      let told = rw (in_escape, first_char, escape) at reads.told in
      let letters = chars_push s.word d utf8 is.scalar ∙ ap (λ (w : List ℕ). w ++ d ∷ []) (sym (begun_is s.has_begun s.word reads.empty)) in
      let begun_at : start + 1 ≡ s.offset = rw in_escape at reads.begun_at in
      let place : offset ≡ start + 2 = omega (arith, step_ascii is.ascii, begun_at) in
      record {
        utf8 = rest_utf8;
        empty = λ e. absurd (true≢false e);
        begun_at = tt;
        told = rw (letters, place) (sym (answer_escape _ d (parts_of (chars rest))) ∙ told);
      }

  pub read_mark : (quote : Option ℕ) → quote ≡ turned s.quote s.offset → c ≡ 34 → s.escape ≡ None
      → Reads (record s { has_begun = true; quote = quote; offset = offset; rest = rest })
  read_mark quote turns is no_escape =
      let told = rw (no_escape, first_char, is, parts_of-plain 34 (chars rest) refl) at reads.told in
      let letters = begun_is s.has_begun s.word reads.empty in
      record {
        utf8 = rest_utf8;
        empty = λ e. absurd (true≢false e);
        begun_at = rw no_escape tt;
        told = rw (no_escape, ← letters, turns, step_ascii (omega arith)) (sym (answer_mark _ (parts_of (chars rest))) ∙ told);
      }

  pub read_letter : (c == 92) ≡ false → (c == 34) ≡ false → (is_blank c && not (is_some s.quote)) ≡ false → IsUtf8 s.word → s.escape ≡ None
      → Reads (record s { has_begun = true; word = s.word ++ encode_utf8 c; offset = offset; rest = rest })
  read_letter backslash mark gap utf8 no_escape =
      let told = rw (no_escape, first_char, parts_of-plain c (chars rest) backslash) at reads.told in
      let letters = chars_push s.word c utf8 first_scalar ∙ ap (λ (w : List ℕ). w ++ c ∷ []) (sym (begun_is s.has_begun s.word reads.empty)) in
      record {
        utf8 = rest_utf8;
        empty = λ e. absurd (true≢false e);
        begun_at = rw no_escape tt;
        told = rw (no_escape, letters, step_plain) (sym (answer_letter _ c (parts_of (chars rest)) mark gap) ∙ told);
      }

  pub read_gap : is_blank c ≡ true → s.quote ≡ None → s.escape ≡ None
      → Reads (record s {
        words = s.words ++ option_to_list (cond s.has_begun (Some (chars s.word)) None);
        has_begun = false;
        word = [];
        offset = offset;
        rest = rest;
      })
  read_gap blank closed no_escape =
      let not_backslash = blank_is_not c 92 blank (lit≤ tt) in
      let not_mark = blank_is_not c 34 blank (lit≤ tt) in
      let told = rw (no_escape, first_char, parts_of-plain c (chars rest) not_backslash) at reads.told in
      record {
        utf8 = rest_utf8;
        empty = λ _. refl;
        begun_at = rw no_escape tt;
        told = rw (no_escape, step_plain) (sym (answer_gap _ c (parts_of (chars rest)) not_mark blank closed) ∙ told);
      }

-- the start of the text
pub read_nothing : (line : List ℕ) → IsUtf8 line
    → Reads (record { line = line; words = []; has_begun = false; word = []; quote = None; escape = None; offset = 0; rest = line })
read_nothing line utf8 = record {
  utf8 = utf8;
  empty = λ _. refl;
  begun_at = tt;
  told = answer_start (parts_of (chars line));
}
