-- The words of a line of characters.
use Rattle.std.specs.Prelude.{ℕ, ◌%◌, ◌==◌, nat_lt, Bool, true, false, not, ◌&&◌, ◌||◌, if◌then◌else◌, Option, Some, None, List, [], ◌∷◌, map, filter, length, take, count_by}
use Rattle.std.specs.List.{slice_split, filter_map, enumerate_from}
use Rattle.std.specs.Char.{len_utf8}

-- a part of a line: a character that denotes itself, an escape, given by the character that it denotes, or a backslash
-- that begins no escape
pub data Part : Type 0 where
  Plain : ℕ → Part
  Escape : ℕ → Part
  Bad : Part

-- the part that a backslash makes with the character after it
abbrev pub escape_with : ℕ → Part
escape_with c = if c == 34 then Escape 34 else (if c == 92 then Escape 92 else (if c == 110 then Escape 10 else Bad))

-- the parts of a line: a backslash and the character after it are one part
abbrev pub parts_of : List ℕ → List Part
parts_of [] = []
parts_of (c ∷ []) = (if c == 92 then Bad else Plain c) ∷ []
parts_of (c ∷ d ∷ cs) = if c == 92 then escape_with d ∷ parts_of cs else Plain c ∷ parts_of (d ∷ cs)

-- how many bytes of the line a part takes
abbrev pub byte_len : Part → ℕ
byte_len (Plain c) = len_utf8 c
byte_len (Escape c) = 2
byte_len Bad = 1

-- a quotation mark that is not escaped
abbrev pub is_mark : Part → Bool
is_mark (Plain c) = c == 34
is_mark (Escape c) = false
is_mark Bad = false

abbrev pub is_bad : Part → Bool
is_bad (Plain c) = false
is_bad (Escape c) = false
is_bad Bad = true

-- the space and the tab
abbrev pub is_blank : ℕ → Bool
is_blank c = (c == 32) || (c == 9)

-- whether the parts leave quotes open: their quotation marks are odd in number
abbrev pub is_unclosed : List Part → Bool
is_unclosed parts = count_by is_mark parts % 2 == 1

-- what a part is for the words of its line: a gap between them, a quotation mark, or a character of a word
pub data Role : Type 0 where
  Gap : Role
  Mark : Role
  Letter : ℕ → Role

-- the role of a part, by whether it is in quotes: a blank separates words only outside them. A bad escape gives no
-- character, since its line has no words
abbrev pub role_of : Part → Bool → Role
role_of (Plain c) quoted = if c == 34 then Mark else (if is_blank c && not quoted then Gap else Letter c)
role_of (Escape c) quoted = Letter c
role_of Bad quoted = Mark

-- the role of each part: it is quoted if the quotation marks before it are odd in number
abbrev pub roles_of : List Part → List Role
roles_of parts = map (λ at. role_of at.1 (is_unclosed (take at.0 parts))) (enumerate_from 0 parts)

abbrev pub is_gap : Role → Bool
is_gap Gap = true
is_gap Mark = false
is_gap (Letter c) = false

-- the character that a role gives to its word
abbrev pub letter_of : Role → Option ℕ
letter_of Gap = None
letter_of Mark = None
letter_of (Letter c) = Some c

-- the words: the characters between gaps, if there is anything between them
abbrev pub words_between : List Role → List (List ℕ)
words_between roles = map (filter_map letter_of) (filter (λ group. nat_lt 0 (length group)) (slice_split is_gap roles))
