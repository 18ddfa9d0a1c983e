-- A line that is read part by part: what the parts that are left give, after those that were read.
use Rattle.std.proofs.Common.{◌≡◌, ℕ, ◌+◌, Bool, true, false, cond, not, ◌&&◌, List, [], ◌∷◌, ◌++◌, map, length, Result, Ok, Err, refl, sym, ap, ◌∙◌, arith, inl, inr, append_assoc, append-nil, add_assoc, add-zero, zero-add}
use Rattle.std.specs.Prelude.{Option, Some, None, is_some, nat_lt, ◌==◌, filter, sum_by}
use Rattle.std.specs.List.{before_first, before_last, list_any, slice_split, onto_first, filter_map, position_or_len}
use Rattle.std.specs.Option.{option_to_list}
use Rattle.std.specs.Char.{len_utf8}
use Rattle.std.proofs.Math.Numerals.{one-add}
use Rattle.std.proofs.Math.Bool.{xor}
use Rattle.std.proofs.lemmas.Bool.{cases_Bool, lt-ltb}
use Rattle.std.proofs.lemmas.List.Sums.{sum_by-cons}
use Rattle.amcp_text.specs.Words.{Part, Plain, Escape, Bad, Role, Mark, Letter, byte_len, is_mark, is_bad, is_unclosed, is_gap, is_blank, letter_of}
use Rattle.amcp_text.specs.Tokens.{words_of_parts}
use Rattle.amcp_text.specs.declared.token.TokenFault.{TokenFault}
use Rattle.amcp_text.specs.declared.token.TokenFault.TheVariants.{OpenQuote, BadEscape}
use Rattle.amcp_text.proofs.LastMark.{before_last-cons}
use Rattle.amcp_text.proofs.Roles.{roles_from, roles_of_is, is_unclosed-cons, is_unclosed_none}

-- what was read of a line: its words, the word that has begun, the mark of quotes that are open, and where the rest begins
pub record Read : Type 0 where
  pub words : List (List ℕ)
  pub word : Option (List ℕ)
  pub quote : Option ℕ
  pub place : ℕ

-- the words in groups of roles, the first of which goes on with a word that has begun
abbrev words_in : List (List Role) → List (List ℕ)
words_in groups = map (filter_map letter_of) (filter (λ group. nat_lt 0 (length group)) groups)

abbrev words_with : Option (List ℕ) → List (List Role) → List (List ℕ)
words_with None groups = words_in groups
words_with (Some word) [] = word ∷ []
words_with (Some word) (group ∷ groups) = (word ++ filter_map letter_of group) ∷ words_in groups

-- the mark that opens quotes, after a mark at this place
abbrev pub turned : Option ℕ → ℕ → Option ℕ
turned None place = Some place
turned (Some mark) place = None

-- the mark of quotes that are open at the end
open_mark : Option ℕ → ℕ → List Part → Option ℕ
open_mark quote place [] = quote
open_mark quote place (part ∷ parts) = open_mark (cond (is_mark part) (turned quote place) quote) (place + byte_len part) parts

abbrev at_end : Option ℕ → List (List ℕ) → Result (List (List ℕ)) TokenFault
at_end None words = Ok words
at_end (Some mark) words = Err (OpenQuote mark)

-- what the parts that are left give
pub answer : Read → List Part → Result (List (List ℕ)) TokenFault
answer s parts =
    cond (list_any is_bad parts) (Err (BadEscape (s.place + sum_by byte_len (before_first is_bad parts))))
    (at_end (open_mark s.quote s.place parts) (s.words ++ words_with s.word (slice_split is_gap (roles_from (is_some s.quote) parts))))

bad_place : (part : Part) (parts : List Part) → is_bad part ≡ false
    → sum_by byte_len (before_first is_bad (part ∷ parts)) ≡ byte_len part + sum_by byte_len (before_first is_bad parts)
bad_place part parts good = rw (good, one-add (position_or_len is_bad parts)) (sum_by-cons byte_len part (before_first is_bad parts))

-- what is left after one more part
answer_next : (s t : Read) (part : Part) (parts : List Part) → is_bad part ≡ false → t.place ≡ s.place + byte_len part
    → t.quote ≡ cond (is_mark part) (turned s.quote s.place) s.quote
    → t.words ++ words_with t.word (slice_split is_gap (roles_from (is_some t.quote) parts)) ≡ s.words ++ words_with s.word (slice_split is_gap (roles_from (is_some s.quote) (part ∷ parts)))
    → answer s (part ∷ parts) ≡ answer t parts
unfolding answer open_mark
answer_next s t part parts good place quote words =
    rw (bad_place part parts good, good, ← words, ← place, ← quote, ← add_assoc s.place (byte_len part) (sum_by byte_len (before_first is_bad parts)), ← place) refl

-- the word that has begun, or an empty one
abbrev pub begun : Option (List ℕ) → List ℕ
begun None = []
begun (Some word) = word

words_with_end : (word : Option (List ℕ)) → words_with word ([] ∷ []) ≡ option_to_list word
words_with_end None = refl
words_with_end (Some word) = ap (λ (w : List ℕ). w ∷ []) (append-nil word)

words_with_gap : (word : Option (List ℕ)) (groups : List (List Role)) → words_with word ([] ∷ groups) ≡ option_to_list word ++ words_with None groups
words_with_gap None groups = refl
words_with_gap (Some word) groups = ap (λ (w : List ℕ). w ∷ words_in groups) (append-nil word)

words_with_mark : (word : Option (List ℕ)) (groups : List (List Role)) → words_with word (onto_first Mark groups) ≡ words_with (Some (begun word)) groups
words_with_mark None [] = refl
words_with_mark None (group ∷ groups) = rw (lt-ltb 0 (length (Mark ∷ group)) (omega arith)) refl
words_with_mark (Some word) [] = ap (λ (w : List ℕ). w ∷ []) (append-nil word)
words_with_mark (Some word) (group ∷ groups) = refl

words_with_letter : (word : Option (List ℕ)) (c : ℕ) (groups : List (List Role))
    → words_with word (onto_first (Letter c) groups) ≡ words_with (Some (begun word ++ c ∷ [])) groups
words_with_letter None c [] = refl
words_with_letter None c (group ∷ groups) = rw (lt-ltb 0 (length (Letter c ∷ group)) (omega arith)) refl
words_with_letter (Some word) c [] = refl
words_with_letter (Some word) c (group ∷ groups) =
    ap (λ (w : List ℕ). w ∷ words_in groups) (sym (append_assoc word (c ∷ []) (filter_map letter_of group)))

is_some-turned : (quote : Option ℕ) (place : ℕ) → is_some (turned quote place) ≡ not (is_some quote)
is_some-turned None place = refl
is_some-turned (Some mark) place = refl

-- a quotation mark
pub answer_mark : (s : Read) (parts : List Part)
    → answer s (Plain 34 ∷ parts) ≡ answer (record { words = s.words; word = Some (begun s.word); quote = turned s.quote s.place; place = s.place + 1 }) parts
answer_mark s parts =
    answer_next s (record { words = s.words; word = Some (begun s.word); quote = turned s.quote s.place; place = s.place + 1 }) (Plain 34) parts refl refl refl
    (rw (is_some-turned s.quote s.place, words_with_mark s.word (slice_split is_gap (roles_from (not (is_some s.quote)) parts))) refl)

-- a character of a word
pub answer_letter : (s : Read) (c : ℕ) (parts : List Part) → (c == 34) ≡ false → (is_blank c && not (is_some s.quote)) ≡ false
    → answer s (Plain c ∷ parts) ≡ answer (record { words = s.words; word = Some (begun s.word ++ c ∷ []); quote = s.quote; place = s.place + len_utf8 c }) parts
answer_letter s c parts mark gap =
    answer_next s (record { words = s.words; word = Some (begun s.word ++ c ∷ []); quote = s.quote; place = s.place + len_utf8 c }) (Plain c) parts refl refl
    (rw mark refl)
    (rw (mark, gap, words_with_letter s.word c (slice_split is_gap (roles_from (is_some s.quote) parts))) refl)

-- an escape
pub answer_escape : (s : Read) (c : ℕ) (parts : List Part)
    → answer s (Escape c ∷ parts) ≡ answer (record { words = s.words; word = Some (begun s.word ++ c ∷ []); quote = s.quote; place = s.place + 2 }) parts
answer_escape s c parts =
    answer_next s (record { words = s.words; word = Some (begun s.word ++ c ∷ []); quote = s.quote; place = s.place + 2 }) (Escape c) parts refl refl refl
    (rw (words_with_letter s.word c (slice_split is_gap (roles_from (is_some s.quote) parts))) refl)

-- a blank outside quotes
pub answer_gap : (s : Read) (c : ℕ) (parts : List Part) → (c == 34) ≡ false → is_blank c ≡ true → s.quote ≡ None
    → answer s (Plain c ∷ parts) ≡ answer (record { words = s.words ++ option_to_list s.word; word = None; quote = s.quote; place = s.place + len_utf8 c }) parts
answer_gap s c parts mark blank closed =
    answer_next s (record { words = s.words ++ option_to_list s.word; word = None; quote = s.quote; place = s.place + len_utf8 c }) (Plain c) parts refl refl
    (rw mark refl)
    (rw (mark, closed, blank, words_with_gap s.word (slice_split is_gap (roles_from false parts))) (append_assoc s.words (option_to_list s.word) _))

-- the end of the line
pub answer_end : (s : Read) → s.quote ≡ None → answer s [] ≡ Ok (s.words ++ option_to_list s.word)
unfolding answer open_mark
answer_end s closed = rw (closed, words_with_end s.word) refl

pub answer_open : (s : Read) (mark : ℕ) → s.quote ≡ Some mark → answer s [] ≡ Err (OpenQuote mark)
unfolding answer open_mark
answer_open s mark unclosed = rw unclosed refl

-- a bad escape
pub answer_bad : (s : Read) (parts : List Part) → answer s (Bad ∷ parts) ≡ Err (BadEscape s.place)
unfolding answer
answer_bad s parts = rw (add-zero s.place) refl

xor-not : (a b : Bool) → xor a (not b) ≡ xor (not a) b
unfolding xor
xor-not true true = refl
xor-not true false = refl
xor-not false true = refl
xor-not false false = refl

xor_false : (b : Bool) → xor false b ≡ b
unfolding xor
xor_false true = refl
xor_false false = refl

-- the place of the last mark, with one more part before
last_place : (place : ℕ) (part : Part) (parts : List Part) → list_any is_mark parts ≡ true
    → place + sum_by byte_len (before_last is_mark (part ∷ parts)) ≡ place + byte_len part + sum_by byte_len (before_last is_mark parts)
last_place place part parts later =
    rw (before_last-cons is_mark part parts, later, sum_by-cons byte_len part (before_last is_mark parts))
    (sym (add_assoc place (byte_len part) (sum_by byte_len (before_last is_mark parts))))

-- the only mark
only_place : (place : ℕ) (part : Part) (parts : List Part) → list_any is_mark parts ≡ false
    → place + sum_by byte_len (before_last is_mark (part ∷ parts)) ≡ place
only_place place part parts none = rw (before_last-cons is_mark part parts, none) (add-zero place)

turned_is : (quote : Option ℕ) (place : ℕ) → turned quote place ≡ cond (xor (is_some quote) true) (Some place) None
unfolding xor
turned_is None place = refl
turned_is (Some mark) place = refl

-- the mark that is open at the end is the last one, if the marks of the rest leave quotes open
open_mark_is : (quote : Option ℕ) (place : ℕ) (parts : List Part)
    → open_mark quote place parts ≡ cond (list_any is_mark parts) (cond (xor (is_some quote) (is_unclosed parts)) (Some (place + sum_by byte_len (before_last is_mark parts))) None) quote
unfolding open_mark
open_mark_is quote place [] = refl
open_mark_is quote place (part ∷ parts) = elim (cases_Bool (is_mark part)) [
  | inl passes ↦ elim (cases_Bool (list_any is_mark parts)) [
    | inl later ↦
        rw (is_unclosed-cons part parts, last_place place part parts later, passes, open_mark_is (turned quote place) (place + byte_len part) parts, later, is_some-turned quote place, xor-not (is_some quote) (is_unclosed parts)) refl
    | inr none ↦
        rw (is_unclosed-cons part parts, only_place place part parts none, passes, open_mark_is (turned quote place) (place + byte_len part) parts, none, is_unclosed_none parts none) (turned_is quote place)
  ]
  | inr fails ↦ elim (cases_Bool (list_any is_mark parts)) [
    | inl later ↦
        rw (is_unclosed-cons part parts, last_place place part parts later, fails, open_mark_is quote (place + byte_len part) parts, later) refl
    | inr none ↦ rw (fails, open_mark_is quote (place + byte_len part) parts, none) refl
  ]
]

-- a whole line
pub answer_start : (parts : List Part) → answer (record { words = []; word = None; quote = None; place = 0 }) parts ≡ words_of_parts parts
unfolding answer
answer_start parts =
    let marks = list_any is_mark parts in
    let quoted : open_mark None 0 parts ≡ cond (is_unclosed parts) (Some (sum_by byte_len (before_last is_mark parts))) None =
    open_mark_is None 0 parts ∙ elim (cases_Bool marks) [
      | inl some ↦ rw (some, xor_false (is_unclosed parts), zero-add (sum_by byte_len (before_last is_mark parts))) refl
      | inr none ↦ rw (none, is_unclosed_none parts none) refl
    ] in
    elim (cases_Bool (is_unclosed parts)) [
      | inl unclosed ↦ rw (quoted, unclosed, zero-add (sum_by byte_len (before_first is_bad parts))) refl
      | inr closed ↦ rw (quoted, closed, zero-add (sum_by byte_len (before_first is_bad parts)), ← roles_of_is parts) refl
    ]
