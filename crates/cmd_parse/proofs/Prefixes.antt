-- Words that begin as a colour or as a route.
use Rattle.std.proofs.Common.{◌≡◌, ℕ, ◌+◌, ◌<◌, ◌≤◌, true, false, List, [], ◌∷◌, ◌++◌, map, take, drop, length, refl, sym, ap, ◌∙◌, arith, suc, lit<}
use Rattle.std.specs.Prelude.{Option, Some, None, MatchOption, codes, encode_utf8_all}
use Rattle.std.specs.Borrow.{Bor}
use Rattle.std.specs.Char.{to_ascii_uppercase, to_ascii_lowercase}
use Rattle.std.specs.Str.{IsUtf8, IsAscii, chars, bytes_eq}
use Rattle.std.specs.Str.Pattern.{FindsCharPrefix}
use Rattle.std.proofs.lemmas.Str.Pattern.{strip_prefix_char}
use Rattle.std.proofs.lemmas.Str.{encodes-chars, encodes-append, chars_past_char, encode_ascii, chars-IsAscii, chars-append, encodes-IsAscii, IsUtf8-from_ascii}
use Rattle.std.proofs.lemmas.Str.Ascii.{IsAscii-nil, IsAscii-cons}
use Rattle.std.proofs.lemmas.List.{length-map, length-append, take_at, drop_at, take-append-drop}
use Rattle.std.proofs.lemmas.Slice.Eq.{bytes_eq-Decides}
use Rattle.std.proofs.lemmas.Bool.Decides.{nat_tests}
use Rattle.std.proofs.lemmas.Bool.{false_from_ne_true, eqb-true}
use Rattle.play_types.proofs.Letters.{uppercase_of_lowercase, lowercase_of_uppercase, capitals_are_ascii}
use Rattle.play_types.specs.Words.{is_word}
use Rattle.history_model.specs.commands.Producer.{is_colour_word, is_route_word}

-- the characters after an ASCII one
pub chars_after_ascii : (c : ℕ) → c < 128 → (text rest : List ℕ) → IsUtf8 text → text ≡ c ∷ rest → chars text ≡ c ∷ chars rest
chars_after_ascii c ascii text rest utf8 e =
    chars_past_char text rest c utf8 (e ∙ ap (λ bytes. bytes ++ rest) (sym (encode_ascii c ascii)))

-- a text that begins with an ASCII character begins with its byte
bytes_after_ascii : (c : ℕ) → c < 128 → (text cs : List ℕ) → IsUtf8 text → chars text ≡ c ∷ cs → text ≡ c ∷ encode_utf8_all cs
bytes_after_ascii c ascii text cs utf8 e =
    sym (encodes-chars text utf8) ∙ ap encode_utf8_all e ∙ ap (λ bytes. bytes ++ encode_utf8_all cs) (encode_ascii c ascii)

colour_of_chars : (cs : List ℕ) → is_colour_word cs ≡ true → cs ≡ 35 ∷ drop 1 cs
colour_of_chars [] h = cc
colour_of_chars (c ∷ cs) h = ap (λ b. b ∷ cs) (eqb-true c 35 h)

pub hash_prefix : (word : List ℕ) (rest : Option (Bor (List ℕ))) → IsUtf8 word
    → MatchOption rest (FindsCharPrefix 35 word None) (λ x. (n : ℕ) × FindsCharPrefix 35 word (Some n) × (x.now ≡ drop n word) × (length x.now + n ≡ length word))
    → MatchOption rest (is_colour_word (chars word) ≡ false) (λ digits. (is_colour_word (chars word) ≡ true) × (drop 1 (chars word) ≡ chars digits.now))
hash_prefix word None utf8 h =
    let none = strip_prefix_char 35 word None h (lit< tt) in
    false_from_ne_true (is_colour_word (chars word))
    (λ e. none (encode_utf8_all (drop 1 (chars word))) (bytes_after_ascii 35 (lit< tt) word (drop 1 (chars word)) utf8 (colour_of_chars (chars word) e)))
hash_prefix word (Some digits) utf8 h =
    let some = strip_prefix_char 35 word (Some digits) h (lit< tt) in
    let e = chars_after_ascii 35 (lit< tt) word digits.now utf8 some in
    (ap is_colour_word e, ap (drop 1) e)

-- a text whose capitals are ASCII is ASCII
low_of_uppercase : (c : ℕ) → to_ascii_uppercase c < 128 → c < 128
low_of_uppercase c h = grind (arith, nat_tests)

ascii_of_uppercase : (text : List ℕ) → IsAscii (map to_ascii_uppercase text) → IsAscii text
ascii_of_uppercase [] h = IsAscii-nil
ascii_of_uppercase (c ∷ cs) h = IsAscii-cons c cs (low_of_uppercase c (h 0)) (ascii_of_uppercase cs (λ i. h (suc i)))

-- the prefix of a route, in capitals
abbrev route_mark : List ℕ
route_mark = codes "ROUTE://"

-- this prefix of a word is `route://`, in any case
pub record IsRoute (prefix : List ℕ) : Type 0 where
  pub capitals : map to_ascii_uppercase prefix ≡ route_mark
  pub ascii : IsAscii prefix
  pub len : length prefix ≡ 8

route_from_capitals : (prefix : List ℕ) → map to_ascii_uppercase prefix ≡ route_mark → IsRoute prefix
route_from_capitals prefix h = record {
  capitals = h;
  ascii = ascii_of_uppercase prefix (rw h (capitals_are_ascii route_mark refl));
  len = sym (length-map prefix to_ascii_uppercase) ∙ ap length h;
}

pub route_from_bytes : (prefix : List ℕ) → map to_ascii_lowercase prefix ≡ codes "route://" → IsRoute prefix
route_from_bytes prefix h = route_from_capitals prefix (sym (uppercase_of_lowercase prefix) ∙ ap (map to_ascii_uppercase) h)

-- the characters after the prefix of a route
pub route_prefix : (word : List ℕ) → IsUtf8 word → IsRoute (take 8 word)
    → (is_route_word (chars word) ≡ true) × (drop 8 (chars word) ≡ chars (drop 8 word))
unfolding is_word
route_prefix word utf8 route =
    let prefix = take 8 word in
    let back = drop 8 word in
    let whole : chars word ≡ prefix ++ chars back =
    ap chars (sym (take-append-drop 8 word)) ∙ chars-append prefix back (IsUtf8-from_ascii prefix route.ascii) ∙ ap (λ cs. cs ++ chars back) (chars-IsAscii prefix route.ascii) in
    let taken : take 8 (chars word) ≡ prefix = ap (take 8) whole ∙ take_at prefix (chars back) 8 route.len in
    let left : drop 8 (chars word) ≡ chars back = ap (drop 8) whole ∙ drop_at prefix (chars back) 8 route.len in
    (ap (λ cs. bytes_eq (map to_ascii_uppercase cs) route_mark) taken ∙ (bytes_eq-Decides (map to_ascii_uppercase prefix) route_mark).1 route.capitals, left)

-- a word whose bytes do not begin with `route://` is no route
pub no_route : (word : List ℕ) → IsUtf8 word → (8 ≤ length word → map to_ascii_lowercase (take 8 word) ≡ codes "route://" → ⊥) → is_route_word (chars word) ≡ false
unfolding is_word
no_route word utf8 other =
    false_from_ne_true (is_route_word (chars word))
    (λ is.
    let cs = chars word in
    let prefix = take 8 cs in
    let route = route_from_capitals prefix ((bytes_eq-Decides (map to_ascii_uppercase prefix) route_mark).0 is) in
    let whole : word ≡ prefix ++ encode_utf8_all (drop 8 cs) =
    sym (encodes-chars word utf8) ∙ ap encode_utf8_all (sym (take-append-drop 8 cs)) ∙ encodes-append prefix (drop 8 cs)
    ∙ ap (λ bytes. bytes ++ encode_utf8_all (drop 8 cs)) (encodes-IsAscii prefix route.ascii) in
    let taken : take 8 word ≡ prefix = ap (take 8) whole ∙ take_at prefix (encode_utf8_all (drop 8 cs)) 8 route.len in
    let long : 8 ≤ length word = omega (arith, ap length whole, length-append prefix (encode_utf8_all (drop 8 cs)), route.len) in
    other long (ap (map to_ascii_lowercase) taken ∙ sym (lowercase_of_uppercase prefix) ∙ ap (map to_ascii_lowercase) route.capitals))
