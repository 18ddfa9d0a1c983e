-- A line of printed words is read as the words that they mean.
use Rattle.std.proofs.Common.{◌≡◌, ℕ, Bool, true, false, cond, not, ◌&&◌, ◌==◌, nat_lt, List, [], ◌∷◌, ◌++◌, map, length, Ok, refl, sym, ap, ◌∙◌, arith, inl, inr, append_assoc, append-nil}
use Rattle.std.specs.Prelude.{codes, flat_map, filter_map}
use Rattle.std.specs.List.{list_all, list_any, slice_split, onto_first}
use Rattle.std.proofs.lemmas.Bool.{cases_Bool, and_parts, eqb-true, lt-ltb}
use Rattle.std.proofs.lemmas.Bool.Decides.{nat_tests}
use Rattle.std.proofs.lemmas.List.Splits.{slice_split-cons_yes, slice_split-cons_no}
use Rattle.amcp_text.specs.Words.{Part, Role, Gap, Mark, Letter, Escape, parts_of, is_bad, is_mark, is_blank, is_unclosed, role_of, roles_of, is_gap, letter_of, words_between}
use Rattle.amcp_text.specs.Words as part
use Rattle.amcp_text.specs.Tokens.{words_of, words_of_parts}
use Rattle.amcp_text.specs.Escapes.{escaped, quoted}
use Rattle.amcp_text.proofs.Roles.{roles_from, roles_of_is, is_unclosed-cons}
use Rattle.history_model.specs.text.Commands.{Word, Plain, Quoted, word_text, word_meant}
use Rattle.cmd_print.proofs.Texts.{is_plain, is_fit, are_fit, plain_of_fit}

-- a plain character opens no escape and no quotes, and it parts no words
record IsLetter (c : ℕ) : Type 0 where
  slash : (c == 92) ≡ false
  mark : (c == 34) ≡ false
  blank : is_blank c ≡ false

letter_of_plain : (c : ℕ) → is_plain c ≡ true → IsLetter c
letter_of_plain c h = record { slash = grind (arith, nat_tests, h); mark = grind (arith, nat_tests, h); blank = grind (arith, nat_tests, h) }

-- the part that a character which is no backslash makes
plain_part : (c : ℕ) (cs : List ℕ) → (c == 92) ≡ false → parts_of (c ∷ cs) ≡ part.Plain c ∷ parts_of cs
plain_part c [] h = rw h refl
plain_part c (d ∷ ds) h = rw h refl

-- the part that a character of a quoted name makes
abbrev name_part : ℕ → Part
name_part c = cond (c == 34) (Escape 34) (cond (c == 92) (Escape 92) (cond (c == 10) (Escape 10) (part.Plain c)))

-- what holds of the three escapes, and of any other character as itself, holds of each character and the part that it makes
each_character : (P : List ℕ → Part → Type 0) (c : ℕ)
    → (c ≡ 34 → P (codes "\\\"") (Escape 34)) → (c ≡ 92 → P (codes "\\\\") (Escape 92)) → (c ≡ 10 → P (codes "\\n") (Escape 10))
    → ((c == 34) ≡ false → (c == 92) ≡ false → P (c ∷ []) (part.Plain c)) → P (escaped c) (name_part c)
each_character P c mark slash line other = elim (cases_Bool (c == 34)) [
  | inl is ↦ rw is (mark (eqb-true c 34 is))
  | inr no_mark ↦ elim (cases_Bool (c == 92)) [
    | inl is ↦ rw (no_mark, is) (slash (eqb-true c 92 is))
    | inr no_slash ↦ elim (cases_Bool (c == 10)) [
      | inl is ↦ rw (no_mark, no_slash, is) (line (eqb-true c 10 is))
      | inr no_line ↦ rw (no_mark, no_slash, no_line) (other no_mark no_slash)
    ]
  ]
]

escaped_parts : (c : ℕ) (rest : List ℕ) → parts_of (escaped c ++ rest) ≡ name_part c ∷ parts_of rest
escaped_parts c rest =
    each_character (λ written made. parts_of (written ++ rest) ≡ made ∷ parts_of rest) c (λ is. refl) (λ is. refl) (λ is. refl)
    (λ no_mark no_slash. plain_part c rest no_slash)

name_parts : (name rest : List ℕ) → parts_of (flat_map escaped name ++ rest) ≡ map name_part name ++ parts_of rest
name_parts [] rest = refl
name_parts (c ∷ cs) rest =
    ap parts_of (append_assoc (escaped c) (flat_map escaped cs) rest) ∙ escaped_parts c (flat_map escaped cs ++ rest)
    ∙ ap (λ parts. name_part c ∷ parts) (name_parts cs rest)

plain_parts : (cs rest : List ℕ) → list_all is_plain cs ≡ true → parts_of (cs ++ rest) ≡ map part.Plain cs ++ parts_of rest
plain_parts [] rest h = refl
plain_parts (c ∷ cs) rest h =
    let plain = and_parts (is_plain c) (list_all is_plain cs) h in
    plain_part c (cs ++ rest) (letter_of_plain c plain.0).slash ∙ ap (λ parts. part.Plain c ∷ parts) (plain_parts cs rest plain.1)

-- the parts of a word
abbrev word_parts : Word → List Part
word_parts (Plain word) = map part.Plain word
word_parts (Quoted name) = part.Plain 34 ∷ (map name_part name ++ part.Plain 34 ∷ [])

parts_of_word : (word : Word) (rest : List ℕ) → is_fit word ≡ true → parts_of (word_text word ++ rest) ≡ word_parts word ++ parts_of rest
unfolding quoted
parts_of_word (Plain word) rest h = plain_parts word rest (plain_of_fit word h)
parts_of_word (Quoted name) rest h =
    plain_part 34 ((flat_map escaped name ++ 34 ∷ []) ++ rest) refl
    ∙ ap (λ parts. part.Plain 34 ∷ parts)
    (ap parts_of (append_assoc (flat_map escaped name) (34 ∷ []) rest) ∙ name_parts name (34 ∷ rest)
    ∙ ap (λ parts. map name_part name ++ parts) (plain_part 34 rest refl)
    ∙ sym (append_assoc (map name_part name) (part.Plain 34 ∷ []) (parts_of rest)))

-- the roles of a word's characters
abbrev word_roles : Word → List Role
word_roles (Plain word) = map Letter word
word_roles (Quoted name) = Mark ∷ (map Letter name ++ Mark ∷ [])

plain_roles : (cs : List ℕ) (rest : List Part) → list_all is_plain cs ≡ true
    → roles_from false (map part.Plain cs ++ rest) ≡ map Letter cs ++ roles_from false rest
plain_roles [] rest h = refl
plain_roles (c ∷ cs) rest h =
    let plain = and_parts (is_plain c) (list_all is_plain cs) h in
    let letter = letter_of_plain c plain.0 in
    rw (letter.mark, letter.blank) (ap (λ roles. Letter c ∷ roles) (plain_roles cs rest plain.1))

and_no : (b : Bool) → (b && false) ≡ false
and_no true = refl
and_no false = refl

name_role : (c : ℕ) (rest : List Part) → roles_from true (name_part c ∷ rest) ≡ Letter c ∷ roles_from true rest
name_role c rest =
    each_character (λ written made. roles_from true (made ∷ rest) ≡ Letter c ∷ roles_from true rest) c (λ is. rw is refl) (λ is. rw is refl) (λ is. rw is refl)
    (λ no_mark no_slash. rw (no_mark, and_no (is_blank c)) refl)

name_roles : (cs : List ℕ) (rest : List Part) → roles_from true (map name_part cs ++ rest) ≡ map Letter cs ++ roles_from true rest
name_roles [] rest = refl
name_roles (c ∷ cs) rest = name_role c (map name_part cs ++ rest) ∙ ap (λ roles. Letter c ∷ roles) (name_roles cs rest)

roles_of_word : (word : Word) (rest : List Part) → is_fit word ≡ true → roles_from false (word_parts word ++ rest) ≡ word_roles word ++ roles_from false rest
roles_of_word (Plain word) rest h = plain_roles word rest (plain_of_fit word h)
roles_of_word (Quoted name) rest h =
    ap (λ roles. Mark ∷ roles)
    (ap (roles_from true) (append_assoc (map name_part name) (part.Plain 34 ∷ []) rest) ∙ name_roles name (part.Plain 34 ∷ rest)
    ∙ sym (append_assoc (map Letter name) (Mark ∷ []) (roles_from false rest)))

-- no part of a word is a bad escape
plain_good : (cs : List ℕ) (rest : List Part) → list_any is_bad (map part.Plain cs ++ rest) ≡ list_any is_bad rest
plain_good [] rest = refl
plain_good (c ∷ cs) rest = plain_good cs rest

name_part_good : (c : ℕ) → is_bad (name_part c) ≡ false
name_part_good c =
    each_character (λ written made. is_bad made ≡ false) c (λ is. refl) (λ is. refl) (λ is. refl) (λ no_mark no_slash. refl)

name_good : (cs : List ℕ) (rest : List Part) → list_any is_bad (map name_part cs ++ rest) ≡ list_any is_bad rest
name_good [] rest = refl
name_good (c ∷ cs) rest = rw (name_part_good c) (name_good cs rest)

word_good : (word : Word) (rest : List Part) → list_any is_bad (word_parts word ++ rest) ≡ list_any is_bad rest
word_good (Plain word) rest = plain_good word rest
word_good (Quoted name) rest =
    ap (list_any is_bad) (append_assoc (map name_part name) (part.Plain 34 ∷ []) rest) ∙ name_good name (part.Plain 34 ∷ rest)

-- a word leaves no quotes open
plain_closed : (cs : List ℕ) (rest : List Part) → list_all is_plain cs ≡ true → is_unclosed (map part.Plain cs ++ rest) ≡ is_unclosed rest
plain_closed [] rest h = refl
plain_closed (c ∷ cs) rest h =
    let plain = and_parts (is_plain c) (list_all is_plain cs) h in
    is_unclosed-cons (part.Plain c) (map part.Plain cs ++ rest) ∙ rw (letter_of_plain c plain.0).mark (plain_closed cs rest plain.1)

name_part_open : (c : ℕ) → is_mark (name_part c) ≡ false
name_part_open c =
    each_character (λ written made. is_mark made ≡ false) c (λ is. refl) (λ is. refl) (λ is. refl) (λ no_mark no_slash. no_mark)

name_closed : (cs : List ℕ) (rest : List Part) → is_unclosed (map name_part cs ++ rest) ≡ is_unclosed rest
name_closed [] rest = refl
name_closed (c ∷ cs) rest = is_unclosed-cons (name_part c) (map name_part cs ++ rest) ∙ rw (name_part_open c) (name_closed cs rest)

not_not : (b : Bool) → not (not b) ≡ b
not_not true = refl
not_not false = refl

word_closed : (word : Word) (rest : List Part) → is_fit word ≡ true → is_unclosed (word_parts word ++ rest) ≡ is_unclosed rest
word_closed (Plain word) rest h = plain_closed word rest (plain_of_fit word h)
word_closed (Quoted name) rest h =
    is_unclosed-cons (part.Plain 34) ((map name_part name ++ part.Plain 34 ∷ []) ++ rest)
    ∙ ap not (ap is_unclosed (append_assoc (map name_part name) (part.Plain 34 ∷ []) rest) ∙ name_closed name (part.Plain 34 ∷ rest)
    ∙ is_unclosed-cons (part.Plain 34) rest)
    ∙ not_not (is_unclosed rest)

-- words, each after a space
abbrev spaced_text : List Word → List ℕ
spaced_text words = flat_map (λ word. 32 ∷ word_text word) words

abbrev spaced_parts : List Word → List Part
spaced_parts words = flat_map (λ word. part.Plain 32 ∷ word_parts word) words

abbrev spaced_roles : List Word → List Role
spaced_roles words = flat_map (λ word. Gap ∷ word_roles word) words

-- what the parts of such words are
record AreRead (words : List Word) : Type 0 where
  parts : parts_of (spaced_text words) ≡ spaced_parts words
  good : list_any is_bad (spaced_parts words) ≡ false
  closed : is_unclosed (spaced_parts words) ≡ false
  roles : roles_from false (spaced_parts words) ≡ spaced_roles words

are_read : (words : List Word) → are_fit words ≡ true → AreRead words
are_read [] h = record { parts = refl; good = refl; closed = refl; roles = refl }
are_read (word ∷ words) h =
    let fit = and_parts (is_fit word) (are_fit words) h in
    let rest = are_read words fit.1 in
    record {
      parts = plain_part 32 (word_text word ++ spaced_text words) refl
          ∙ ap (λ parts. part.Plain 32 ∷ parts) (parts_of_word word (spaced_text words) fit.0 ∙ ap (λ parts. word_parts word ++ parts) rest.parts);
      good = word_good word (spaced_parts words) ∙ rest.good;
      closed = is_unclosed-cons (part.Plain 32) (word_parts word ++ spaced_parts words) ∙ word_closed word (spaced_parts words) fit.0 ∙ rest.closed;
      roles = ap (λ roles. Gap ∷ roles) (roles_of_word word (spaced_parts words) fit.0 ∙ ap (λ roles. word_roles word ++ roles) rest.roles);
    }

-- the characters of a word are in no gap
letters_join : (cs : List ℕ) (rest : List Role) → list_any is_gap (map Letter cs ++ rest) ≡ list_any is_gap rest
letters_join [] rest = refl
letters_join (c ∷ cs) rest = letters_join cs rest

no_gap : (word : Word) → list_any is_gap (word_roles word) ≡ false
no_gap (Plain word) = ap (list_any is_gap) (sym (append-nil (map Letter word))) ∙ letters_join word []
no_gap (Quoted name) = letters_join name (Mark ∷ [])

letters_read : (cs : List ℕ) (rest : List Role) → filter_map letter_of (map Letter cs ++ rest) ≡ cs ++ filter_map letter_of rest
letters_read [] rest = refl
letters_read (c ∷ cs) rest = ap (λ word. c ∷ word) (letters_read cs rest)

word_read : (word : Word) → filter_map letter_of (word_roles word) ≡ word_meant word
word_read (Plain word) = ap (filter_map letter_of) (sym (append-nil (map Letter word))) ∙ letters_read word [] ∙ append-nil word
word_read (Quoted name) = letters_read name (Mark ∷ []) ∙ append-nil name

word_long : (word : Word) → is_fit word ≡ true → nat_lt 0 (length (word_roles word)) ≡ true
word_long (Plain []) h = cc
word_long (Plain (c ∷ cs)) h = lt-ltb 0 (length (word_roles (Plain (c ∷ cs)))) (omega arith)
word_long (Quoted name) h = lt-ltb 0 (length (word_roles (Quoted name))) (omega arith)

-- a group of roles before a gap, and the last group
split_first : (group rest : List Role) → list_any is_gap group ≡ false → slice_split is_gap (group ++ Gap ∷ rest) ≡ group ∷ slice_split is_gap rest
split_first [] rest h = slice_split-cons_yes is_gap Gap rest refl
split_first (role ∷ group) rest h = elim (cases_Bool (is_gap role)) [
  | inl gap ↦ absurd (cc (rw gap at h))
  | inr letter ↦
      slice_split-cons_no is_gap role (group ++ Gap ∷ rest) letter
      ∙ ap (onto_first role) (split_first group rest (rw letter at h))
]

split_last : (group : List Role) → list_any is_gap group ≡ false → slice_split is_gap (group ++ []) ≡ group ∷ []
split_last [] h = refl
split_last (role ∷ group) h = elim (cases_Bool (is_gap role)) [
  | inl gap ↦ absurd (cc (rw gap at h))
  | inr letter ↦ slice_split-cons_no is_gap role (group ++ []) letter ∙ ap (onto_first role) (split_last group (rw letter at h))
]

words_read : (word : Word) (words : List Word) → is_fit word ≡ true → are_fit words ≡ true
    → words_between (word_roles word ++ spaced_roles words) ≡ word_meant word ∷ map word_meant words
words_read word [] h all =
    rw (split_last (word_roles word) (no_gap word), word_long word h, word_read word) refl
words_read word (next ∷ words) h all =
    let fit = and_parts (is_fit next) (are_fit words) all in
    rw (split_first (word_roles word) (word_roles next ++ spaced_roles words) (no_gap word), word_long word h, word_read word)
    (ap (λ more. word_meant word ∷ more) (words_read next words fit.0 fit.1))

-- a word and words after it, each after a space, are read as what they mean
pub words_of-printed : (word : Word) (words : List Word) → is_fit word ≡ true → are_fit words ≡ true
    → words_of (word_text word ++ spaced_text words) ≡ Ok (word_meant word ∷ map word_meant words)
words_of-printed word words h all =
    let rest = are_read words all in
    let parts = word_parts word ++ spaced_parts words in
    let whole : parts_of (word_text word ++ spaced_text words) ≡ parts =
    parts_of_word word (spaced_text words) h ∙ ap (λ ps. word_parts word ++ ps) rest.parts in
    let good : list_any is_bad parts ≡ false = word_good word (spaced_parts words) ∙ rest.good in
    let closed : is_unclosed parts ≡ false = word_closed word (spaced_parts words) h ∙ rest.closed in
    let roles : roles_of parts ≡ word_roles word ++ spaced_roles words =
    roles_of_is parts ∙ roles_of_word word (spaced_parts words) h ∙ ap (λ rs. word_roles word ++ rs) rest.roles in
    ap words_of_parts whole ∙ rw (good, closed, roles, words_read word words h all) refl
