-- Names of recordings: characters and bytes, and letters in capitals.
use Rattle.std.proofs.Common.{◌≡◌, ℕ, ◌-◌, ◌<◌, zero, suc, Bool, true, false, cond, List, [], ◌∷◌, ◌++◌, map, length, take, replicate, refl, sym, ap, ◌∙◌, arith}
use Rattle.std.specs.Prelude.{Some, None}
use Rattle.std.specs.Char.{to_ascii_uppercase}
use Rattle.std.specs.List.{list_all}
use Rattle.std.specs.Str.{IsUtf8, IsAscii, chars}
use Rattle.std.proofs.Math.Seq.{take-append_seam}
use Rattle.std.proofs.lemmas.Bool.{and_parts}
use Rattle.std.proofs.lemmas.Bool.Decides.{nat_tests}
use Rattle.std.proofs.lemmas.List.{length-map}
use Rattle.std.proofs.lemmas.Option.{cond_some}
use Rattle.std.proofs.lemmas.Str.{encodes-chars, encodes-IsAscii, chars-IsAscii}
use Rattle.std.proofs.lemmas.Str.Ascii.{uppercase-uppercase, IsAscii-nil, IsAscii-cons}
use Rattle.play_types.specs.RecNames.{IsKept, is_rec_char, is_rec_word, rec_name_of}
use Rattle.play_types.specs.declared.rec_name.TheConstants.{MAX_REC_NAME_BYTES}

char_is_ascii : (c : ℕ) → is_rec_char c ≡ true → c < 128
char_is_ascii c h = grind (arith, nat_tests, h)

chars_are_ascii : (word : List ℕ) → list_all is_rec_char word ≡ true → IsAscii word
chars_are_ascii [] h = IsAscii-nil
chars_are_ascii (c ∷ word) h =
    let parts = and_parts (is_rec_char c) (list_all is_rec_char word) h in
    IsAscii-cons c word (char_is_ascii c parts.0) (chars_are_ascii word parts.1)

-- a word that is a name is ASCII
pub rec_word_is_ascii : (word : List ℕ) → is_rec_word word ≡ true → IsAscii word
rec_word_is_ascii word h = chars_are_ascii word (and_parts _ _ h).1

-- a word is a name by its characters just if it is one by its bytes
pub is_rec_word-chars : (word : List ℕ) → IsUtf8 word → (at_bytes at_chars : Bool) → is_rec_word word ≡ at_bytes → is_rec_word (chars word) ≡ at_chars → at_chars ≡ at_bytes
is_rec_word-chars word utf8 true at_chars b c = sym c ∙ ap is_rec_word (chars-IsAscii word (rec_word_is_ascii word b)) ∙ b
is_rec_word-chars word utf8 false true b c =
    sym c ∙ ap is_rec_word (sym (encodes-IsAscii (chars word) (rec_word_is_ascii (chars word) c)) ∙ encodes-chars word utf8) ∙ b
is_rec_word-chars word utf8 false false b c = refl

-- a word that is no name by its bytes is none by its characters
pub no_name : (word : List ℕ) → IsUtf8 word → is_rec_word word ≡ false → rec_name_of (chars word) ≡ None
no_name word utf8 h =
    ap (λ (b : Bool). cond b (Some (map to_ascii_uppercase (chars word))) None) (is_rec_word-chars word utf8 false (is_rec_word (chars word)) h refl)

-- a word that is a name by its bytes gives the name of these bytes in capitals
pub some_name : (word : List ℕ) → IsUtf8 word → is_rec_word word ≡ true → rec_name_of (chars word) ≡ Some (map to_ascii_uppercase word)
some_name word utf8 h =
    ap rec_name_of (chars-IsAscii word (rec_word_is_ascii word h)) ∙ ap (λ (b : Bool). cond b (Some (map to_ascii_uppercase word)) None) h

capital_is_char : (c : ℕ) → is_rec_char c ≡ true → is_rec_char (to_ascii_uppercase c) ≡ true
capital_is_char c h = grind (arith, nat_tests, h)

capitals_are_chars : (word : List ℕ) → list_all is_rec_char word ≡ true → list_all is_rec_char (map to_ascii_uppercase word) ≡ true
capitals_are_chars [] h = refl
capitals_are_chars (c ∷ word) h =
    let parts = and_parts (is_rec_char c) (list_all is_rec_char word) h in
    rw (capital_is_char c parts.0, capitals_are_chars word parts.1) refl

-- letters in capitals stay as they are
pub capitals_stay : (word : List ℕ) → map to_ascii_uppercase (map to_ascii_uppercase word) ≡ map to_ascii_uppercase word
capitals_stay [] = refl
capitals_stay (c ∷ word) = rw (uppercase-uppercase c, capitals_stay word) refl

-- a name in capitals reads back as itself
pub name_reads_back : (word : List ℕ) → is_rec_word word ≡ true
    → rec_name_of (map to_ascii_uppercase word) ≡ Some (map to_ascii_uppercase word)
name_reads_back word h =
    let parts = and_parts _ (list_all is_rec_char word) h in
    rw (length-map word to_ascii_uppercase, parts.0, capitals_are_chars word parts.1, capitals_stay word) refl

-- a name that reads back as itself has only characters of names
pub is_rec_word-name : (name : List ℕ) → rec_name_of name ≡ Some name → is_rec_word name ≡ true
is_rec_word-name name h = (cond_some (is_rec_word name) (map to_ascii_uppercase name) name h).0

-- zeros have no case
pub zeros_stay : (count : ℕ) → map to_ascii_uppercase (replicate count 0) ≡ replicate count 0
zeros_stay zero = refl
zeros_stay (suc count) = ap (λ rest. 0 ∷ rest) (zeros_stay count)

-- how a word in capitals is kept
module _ (word bytes : List ℕ) where
  pub kept_capitals : bytes ≡ map to_ascii_uppercase word ++ replicate (MAX_REC_NAME_BYTES - length word) 0
      → take (length word) bytes ≡ map to_ascii_uppercase word
  kept_capitals kept =
      ap (take (length word)) kept
      ∙ ap (λ count. take count (map to_ascii_uppercase word ++ replicate (MAX_REC_NAME_BYTES - length word) 0)) (sym (length-map word to_ascii_uppercase))
      ∙ take-append_seam (map to_ascii_uppercase word) (replicate (MAX_REC_NAME_BYTES - length word) 0)

  pub IsKept-capitals : is_rec_word word ≡ true → bytes ≡ map to_ascii_uppercase word ++ replicate (MAX_REC_NAME_BYTES - length word) 0
      → IsKept bytes (length word)
  IsKept-capitals is kept =
      let name = kept_capitals kept in
      record {
        name = ap rec_name_of name ∙ name_reads_back word is ∙ ap Some (sym name);
        count = ap length name ∙ length-map word to_ascii_uppercase;
        rest = kept ∙ ap (λ front. front ++ replicate (MAX_REC_NAME_BYTES - length word) 0) (sym name);
      }
