-- Escapes of a text, character by character and byte by byte.
use Rattle.std.proofs.Common.{◌≡◌, ℕ, ◌+◌, ◌-◌, ◌/◌, ◌%◌, get_or, length-drop, ◌<◌, ◌≤◌, ◌==◌, nat_lt, false, List, [], ◌∷◌, ◌++◌, take, drop, length, refl, sym, ap, ◌∙◌, arith, inl, inr, append_assoc, append-nil}
use Rattle.std.specs.Prelude.{encode_utf8_all}
use Rattle.std.specs.Char.{encode_utf8}
use Rattle.std.specs.List.{flat_map}
use Rattle.std.specs.Str.{IsUtf8, chars}
use Rattle.std.proofs.lemmas.Bool.{cases_Bool, eqb-true, ne_eqb}
use Rattle.std.proofs.lemmas.Grind.{flat_map-append}
use Rattle.std.proofs.lemmas.Str.{encodes-chars, encodes-append}
use Rattle.std.proofs.lemmas.List.{take_more, take_all, get_or-drop, take-append-drop}
use Rattle.amcp_text.specs.Escapes.{escaped, quoted}

-- beyond ASCII nothing is escaped
plain-high : (c : ℕ) → 128 ≤ c → escaped c ≡ c ∷ []
plain-high c high =
    let mark : (c == 34) ≡ false = ne_eqb c 34 (λ e. omega arith) in
    let slash : (c == 92) ≡ false = ne_eqb c 92 (λ e. omega arith) in
    let line : (c == 10) ≡ false = ne_eqb c 10 (λ e. omega arith) in
    rw (mark, slash, line) refl

-- a byte of a character after its first one, with the last six of these bits
abbrev next : ℕ → ℕ
next bits = 128 + bits % 64

-- the bytes of a character that is not escaped are not escaped
plain-bytes : (c : ℕ) → escaped c ≡ c ∷ [] → flat_map escaped (encode_utf8 c) ≡ encode_utf8 c
unfolding encode_utf8
plain-bytes c plain = elim (cases_Bool (nat_lt c 128)) [
  | inl low ↦ rw (low, plain) refl
  | inr high ↦ elim (cases_Bool (nat_lt c 2048)) [
    | inl two ↦ rw (high, two, plain-high (192 + c / 64) (omega arith), plain-high (next c) (omega arith)) refl
    | inr more ↦ elim (cases_Bool (nat_lt c 65536)) [
      | inl three ↦ rw (high, more, three, plain-high (224 + c / 4096) (omega arith), plain-high (next (c / 64)) (omega arith), plain-high (next c) (omega arith)) refl
      | inr four ↦ rw (high, more, four, plain-high (240 + c / 262144) (omega arith), plain-high (next (c / 4096)) (omega arith), plain-high (next (c / 64)) (omega arith), plain-high (next c) (omega arith)) refl
    ]
  ]
]

-- the escape of a character, in bytes
escaped-bytes : (c : ℕ) → encode_utf8_all (escaped c) ≡ flat_map escaped (encode_utf8 c)
unfolding encode_utf8
escaped-bytes c = elim (cases_Bool (c == 34)) [
  | inl mark ↦ rw (eqb-true c 34 mark) refl
  | inr no_mark ↦ elim (cases_Bool (c == 92)) [
    | inl slash ↦ rw (eqb-true c 92 slash) refl
    | inr no_slash ↦ elim (cases_Bool (c == 10)) [
      | inl line ↦ rw (eqb-true c 10 line) refl
      | inr no_line ↦
          let plain : escaped c ≡ c ∷ [] = rw (no_mark, no_slash, no_line) refl in
          rw plain (append-nil (encode_utf8 c) ∙ sym (plain-bytes c plain))
    ]
  ]
]

-- the bytes of a text with its escapes are its bytes with their escapes
pub escaped_text-bytes : (cs : List ℕ) → encode_utf8_all (flat_map escaped cs) ≡ flat_map escaped (encode_utf8_all cs)
escaped_text-bytes [] = refl
escaped_text-bytes (c ∷ cs) =
    rw (encodes-append (escaped c) (flat_map escaped cs), escaped-bytes c, escaped_text-bytes cs)
    (sym (flat_map-append escaped (encode_utf8 c) (encode_utf8_all cs)))

-- a text in quotation marks, in bytes: the text with its escapes between two marks
pub quoted-parts : (text : List ℕ) → encode_utf8_all (quoted text) ≡ ((34 ∷ []) ++ encode_utf8_all (flat_map escaped text)) ++ 34 ∷ []
unfolding quoted encode_utf8
quoted-parts text = ap (λ (bytes : List ℕ). 34 ∷ bytes) (encodes-append (flat_map escaped text) (34 ∷ []))

-- a text in quotation marks, in bytes, by the bytes of the text
pub quoted-bytes : (bytes : List ℕ) → IsUtf8 bytes → encode_utf8_all (quoted (chars bytes)) ≡ ((34 ∷ []) ++ flat_map escaped bytes) ++ 34 ∷ []
quoted-bytes bytes utf8 =
    quoted-parts (chars bytes)
    ∙ ap (λ (inside : List ℕ). ((34 ∷ []) ++ inside) ++ 34 ∷ []) (escaped_text-bytes (chars bytes) ∙ ap (flat_map escaped) (encodes-chars bytes utf8))

-- the bytes from position `from` up to position `to`
abbrev pub between : ℕ → ℕ → List ℕ → List ℕ
between from to bytes = take (to - from) (drop from bytes)

between-more : (from to : ℕ) (bytes : List ℕ) → from ≤ to → to < length bytes
    → between from (to + 1) bytes ≡ between from to bytes ++ get_or bytes to 0 ∷ []
between-more from to bytes order within =
    let count : to + 1 - from ≡ (to - from) + 1 = omega arith in
    let place : from + (to - from) ≡ to = omega arith in
    let short : to - from < length (drop from bytes) = omega (arith, length-drop from bytes) in
    rw (count, take_more (drop from bytes) (to - from) 0 short, get_or-drop, place) refl

-- the bytes from `from` up to `to` have no escapes
abbrev pub IsPlain : ℕ → ℕ → List ℕ → Type 0
IsPlain from to bytes = flat_map escaped (take to bytes) ≡ flat_map escaped (take from bytes) ++ between from to bytes

-- an empty range of bytes has no escapes
pub plain_none : (at : ℕ) (bytes : List ℕ) → IsPlain at at bytes
plain_none at bytes =
    let none : at - at ≡ 0 = omega arith in
    rw none (sym (append-nil (flat_map escaped (take at bytes))))

-- one more byte without an escape
pub plain_more : (from to : ℕ) (bytes : List ℕ) → from ≤ to → to < length bytes → escaped (get_or bytes to 0) ≡ get_or bytes to 0 ∷ []
    → IsPlain from to bytes → IsPlain from (to + 1) bytes
plain_more from to bytes order within plain before =
    rw (take_more bytes to 0 within, flat_map-append, before, between-more from to bytes order within)
    (ap (λ (text : List ℕ). (flat_map escaped (take from bytes) ++ between from to bytes) ++ text) (append-nil (escaped (get_or bytes to 0)) ∙ plain)
    ∙ append_assoc (flat_map escaped (take from bytes)) (between from to bytes) (get_or bytes to 0 ∷ []))

-- the bytes up to and with the one at `at`: those from `from` on without escapes, and that one with its escape
pub escape-more : (from at : ℕ) (bytes : List ℕ) → at < length bytes → IsPlain from at bytes
    → flat_map escaped (take (at + 1) bytes) ≡ flat_map escaped (take from bytes) ++ (between from at bytes ++ escaped (get_or bytes at 0))
escape-more from at bytes within plain =
    rw (take_more bytes at 0 within, flat_map-append, plain, append-nil (escaped (get_or bytes at 0)))
    (append_assoc (flat_map escaped (take from bytes)) (between from at bytes) (escaped (get_or bytes at 0)))

-- all bytes: those parts, and the rest with their escapes
pub escape-parts : (from at : ℕ) (bytes : List ℕ) → at < length bytes → IsPlain from at bytes
    → flat_map escaped bytes
    ≡ (flat_map escaped (take from bytes) ++ (between from at bytes ++ escaped (get_or bytes at 0))) ++ flat_map escaped (drop (at + 1) bytes)
escape-parts from at bytes within plain =
    rw (← escape-more from at bytes within plain)
    (ap (flat_map escaped) (sym (take-append-drop (at + 1) bytes)) ∙ flat_map-append escaped (take (at + 1) bytes) (drop (at + 1) bytes))

-- all bytes, if those from `from` on have no escapes
pub plain-whole : (from : ℕ) (bytes : List ℕ) → IsPlain from (length bytes) bytes
    → flat_map escaped bytes ≡ flat_map escaped (take from bytes) ++ between from (length bytes) bytes
plain-whole from bytes plain = rw (take_all (length bytes) bytes (omega arith)) at plain
