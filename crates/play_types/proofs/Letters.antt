-- Texts that differ in the case of their ASCII letters alone.
use Rattle.std.proofs.Common.{◌≡◌, ℕ, ◌<◌, ◌≤◌, Bool, true, List, [], ◌∷◌, ◌++◌, map, length, get_or, refl, sym, ap, ◌∙◌, arith, inl, inr, suc}
use Rattle.std.specs.Prelude.{encode_utf8, encode_utf8_all, IsTrue, ◌↔◌, nat_lt}
use Rattle.std.specs.Char.{to_ascii_uppercase, to_ascii_lowercase}
use Rattle.std.specs.Str.{IsUtf8, IsAscii, chars, bytes_eq}
use Rattle.std.proofs.lemmas.Str.{encodes-chars, chars-IsAscii, encode_ascii, encodes_same, inside_one}
use Rattle.std.proofs.lemmas.Str.Ascii.{lowercase-uppercase, uppercase_is, uppercase_ascii, IsAscii-nil, IsAscii-cons}
use Rattle.std.proofs.lemmas.Bool.{cases_lt, and_parts, ltb-true}
use Rattle.std.proofs.lemmas.List.{append-nil, map-append}
use Rattle.std.proofs.lemmas.Slice.Eq.{bytes_eq-Decides}
use Rattle.std.proofs.lemmas.Bool.Decides.{nat_tests, same_from_decides}
use Rattle.play_types.specs.Words.{are_capitals, is_word, is_same_name}

-- the bytes of a character that is not ASCII are not ASCII either
pub high_bytes : (c k : ℕ) → 128 ≤ c → k < length (encode_utf8 c) → 128 ≤ get_or (encode_utf8 c) k 0
high_bytes c k high inside = elim (cases_lt (get_or (encode_utf8 c) k 0) 128) [
  | inl low ↦
      let same = inside_one c [] (encode_utf8 c ++ []) k refl inside (rw (append-nil (encode_utf8 c)) low) in
      let low' : get_or (encode_utf8 c ++ []) k 0 < 128 = rw (append-nil (encode_utf8 c)) low in
      absurd (omega (arith, same, low', high))
  | inr above ↦ above
]

-- a byte that is not ASCII has no case
uppercase_above : (b : ℕ) → 128 ≤ b → to_ascii_uppercase b ≡ b
uppercase_above b high = (uppercase_is b).2 (omega arith)

-- bytes that are not ASCII have no case
uppercase_high : (bytes : List ℕ) → ((k : ℕ) → k < length bytes → 128 ≤ get_or bytes k 0) → map to_ascii_uppercase bytes ≡ bytes
uppercase_high [] high = refl
uppercase_high (b ∷ bs) high =
    rw (uppercase_above b (high 0 (omega arith)), uppercase_high bs (λ k inside. high (suc k) (omega arith))) refl

uppercase-encode : (c : ℕ) → encode_utf8 (to_ascii_uppercase c) ≡ map to_ascii_uppercase (encode_utf8 c)
uppercase-encode c = elim (cases_lt c 128) [
  | inl low ↦ encode_ascii (to_ascii_uppercase c) (uppercase_ascii c low) ∙ sym (ap (map to_ascii_uppercase) (encode_ascii c low))
  | inr high ↦
      ap encode_utf8 (uppercase_above c high) ∙ sym (uppercase_high (encode_utf8 c) (λ k inside. high_bytes c k high inside))
]

-- the bytes of characters in capitals are the bytes in capitals
pub uppercase-encodes : (cs : List ℕ) → encode_utf8_all (map to_ascii_uppercase cs) ≡ map to_ascii_uppercase (encode_utf8_all cs)
uppercase-encodes [] = refl
uppercase-encodes (c ∷ cs) =
    rw (uppercase-encode c, uppercase-encodes cs) (sym (map-append to_ascii_uppercase (encode_utf8 c) (encode_utf8_all cs)))

-- the bytes of a text in capitals
uppercase_bytes : (text : List ℕ) → IsUtf8 text → encode_utf8_all (map to_ascii_uppercase (chars text)) ≡ map to_ascii_uppercase text
uppercase_bytes text utf8 = uppercase-encodes (chars text) ∙ ap (map to_ascii_uppercase) (encodes-chars text utf8)

-- a text that is put into capitals and then into small letters is the text in small letters
pub lowercase_of_uppercase : (text : List ℕ) → map to_ascii_lowercase (map to_ascii_uppercase text) ≡ map to_ascii_lowercase text
lowercase_of_uppercase [] = refl
lowercase_of_uppercase (c ∷ cs) = rw (lowercase-uppercase c, lowercase_of_uppercase cs) refl

uppercase-lowercase : (c : ℕ) → to_ascii_uppercase (to_ascii_lowercase c) ≡ to_ascii_uppercase c
uppercase-lowercase c = grind (arith, nat_tests)

-- a text that is put into small letters and then into capitals is the text in capitals
pub uppercase_of_lowercase : (text : List ℕ) → map to_ascii_uppercase (map to_ascii_lowercase text) ≡ map to_ascii_uppercase text
uppercase_of_lowercase [] = refl
uppercase_of_lowercase (c ∷ cs) = rw (uppercase-lowercase c, uppercase_of_lowercase cs) refl

-- comparing the bytes of texts without their case compares their characters in capitals
pub same_in_capitals : (result : Bool) (one other : List ℕ) → IsUtf8 one → IsUtf8 other
    → IsTrue result ↔ (map to_ascii_lowercase one ≡ map to_ascii_lowercase other) → result ≡ is_same_name (chars one) (chars other)
unfolding is_same_name
same_in_capitals result one other utf8 utf8' h =
    let upper = map to_ascii_uppercase in
    let lower = map to_ascii_lowercase in
    let equal = bytes_eq-Decides (upper (chars one)) (upper (chars other)) in
    same_from_decides result (bytes_eq (upper (chars one)) (upper (chars other))) (
      λ e. encodes_same (upper (chars one)) (upper (chars other))
          (uppercase_bytes one utf8 ∙ sym (uppercase_of_lowercase one) ∙ ap upper (h.0 e) ∙ uppercase_of_lowercase other ∙ sym (uppercase_bytes other utf8')),
      λ e. h.1 (sym (lowercase_of_uppercase one) ∙ ap lower (sym (uppercase_bytes one utf8) ∙ ap encode_utf8_all e ∙ uppercase_bytes other utf8')
          ∙ lowercase_of_uppercase other),
    )
    equal

-- a word whose characters come before the small letters is ASCII, and in capitals already
pub capitals_are_ascii : (fixed : List ℕ) → are_capitals fixed ≡ true → IsAscii fixed
capitals_are_ascii [] h = IsAscii-nil
capitals_are_ascii (c ∷ cs) h =
    let parts = and_parts (nat_lt c 97) (are_capitals cs) h in
    IsAscii-cons c cs (omega (arith, ltb-true c 97 parts.0)) (capitals_are_ascii cs parts.1)

uppercase_capitals : (fixed : List ℕ) → are_capitals fixed ≡ true → map to_ascii_uppercase fixed ≡ fixed
uppercase_capitals [] h = refl
uppercase_capitals (c ∷ cs) h =
    let parts = and_parts (nat_lt c 97) (are_capitals cs) h in
    rw ((uppercase_is c).1 (ltb-true c 97 parts.0), uppercase_capitals cs parts.1) refl

-- comparing the bytes of a word without their case to a word in capitals compares its characters in capitals
pub is_word_from_bytes : (result : Bool) (word fixed : List ℕ) → IsUtf8 word → IsUtf8 fixed → are_capitals fixed ≡ true
    → IsTrue result ↔ (map to_ascii_lowercase word ≡ map to_ascii_lowercase fixed) → result ≡ is_word fixed (chars word)
unfolding is_word is_same_name
is_word_from_bytes result word fixed utf8 utf8' capitals h =
    same_in_capitals result word fixed utf8 utf8' h
    ∙ ap (bytes_eq (map to_ascii_uppercase (chars word)))
    (ap (map to_ascii_uppercase) (chars-IsAscii fixed (capitals_are_ascii fixed capitals)) ∙ uppercase_capitals fixed capitals)
