-- Whole lines at the front of a text.
use Rattle.std.proofs.Common.{◌≡◌, ◌⊎◌, inl, inr, ℕ, Bool, true, false, cond, ◌||◌, List, [], ◌∷◌, ◌++◌, map, refl, sym, ap, ◌∙◌, subst, append_assoc, append-nil}
use Rattle.std.specs.List.{list_any, onto_first, slice_split}
use Rattle.std.specs.Str.Lines.{lines, lines_of_parts, strip_carriage_return}
use Rattle.std.proofs.lemmas.Bool.{false≢true, or_parts}
use Rattle.std.proofs.lemmas.List.{map-append}
use mathlib.Core.List.{IsPrefix}
use Rattle.amcp_text.specs.Lines.{is_line_end}
use Rattle.history_model.specs.scripts.Input.{ended_lines, ended_parts}
use Rattle.history_model.specs.scripts.Line.{meaning}
use Rattle.history_model.proofs.Parts.{ended_lines-other}
use Rattle.history_replay.specs.Cut.{whole_lines}
use Rattle.history_replay.specs.Replay.{script_of}
use Rattle.history_replay.proofs.Says.{HasPart, Says, Says-whole, ended_first, some_part}

-- each byte is a line feed or has one behind it
abbrev pub IsWhole : List ℕ → Type 0
IsWhole [] = Unit {0}
IsWhole (c ∷ text) = (list_any is_line_end (c ∷ text) ≡ true) × IsWhole text

-- the whole lines of a text have a line feed if the text has one
any_if : (b : Bool) (c : ℕ) (text : List ℕ) → list_any is_line_end (c ∷ text) ≡ b → list_any is_line_end (whole_lines text) ≡ list_any is_line_end text
    → list_any is_line_end (cond b (c ∷ whole_lines text) []) ≡ b
any_if true c text is rest = ap (λ (m : Bool). is_line_end c || m) rest ∙ is
any_if false c text is rest = refl

any-whole : (text : List ℕ) → list_any is_line_end (whole_lines text) ≡ list_any is_line_end text
any-whole [] = refl
any-whole (c ∷ text) = any_if (list_any is_line_end (c ∷ text)) c text refl (any-whole text)

whole_if : (b : Bool) (c : ℕ) (text : List ℕ) → list_any is_line_end (c ∷ text) ≡ b → IsWhole (whole_lines text) → IsWhole (cond b (c ∷ whole_lines text) [])
whole_if true c text is rest = (ap (λ (m : Bool). is_line_end c || m) (any-whole text) ∙ is, rest)
whole_if false c text is rest = tt

pub whole_lines-whole : (text : List ℕ) → IsWhole (whole_lines text)
whole_lines-whole [] = tt
whole_lines-whole (c ∷ text) = whole_if (list_any is_line_end (c ∷ text)) c text refl (whole_lines-whole text)

-- what follows them has no line feed
pub record HasRest (text whole : List ℕ) : Type 0 where
  pub rest : List ℕ
  pub is : whole ++ rest ≡ text
  pub none : list_any is_line_end rest ≡ false

rest_if : (b : Bool) (c : ℕ) (text : List ℕ) → list_any is_line_end (c ∷ text) ≡ b → HasRest text (whole_lines text)
    → HasRest (c ∷ text) (cond b (c ∷ whole_lines text) [])
rest_if true c text is h = record { rest = h.rest; is = ap (λ (l : List ℕ). c ∷ l) h.is; none = h.none }
rest_if false c text is h = record { rest = c ∷ text; is = refl; none = is }

pub whole_lines-rest : (text : List ℕ) → HasRest text (whole_lines text)
whole_lines-rest [] = record { rest = []; is = refl; none = refl }
whole_lines-rest (c ∷ text) = rest_if (list_any is_line_end (c ∷ text)) c text refl (whole_lines-rest text)

-- they end with its last line feed
pub whole_lines-none : (rest : List ℕ) → list_any is_line_end rest ≡ false → whole_lines rest ≡ []
whole_lines-none [] none = refl
whole_lines-none (c ∷ rest) none = ap (λ (b : Bool). cond b (c ∷ whole_lines rest) []) none

any_last : (front rest : List ℕ) → list_any is_line_end (front ++ 10 ∷ rest) ≡ true
any_last [] rest = refl
any_last (c ∷ front) rest = or_last (is_line_end c) (list_any is_line_end (front ++ 10 ∷ rest)) (any_last front rest)
  where
    or_last : (a b : Bool) → b ≡ true → (a || b) ≡ true
    or_last true b is = refl
    or_last false b is = is

pub whole_lines-last : (front rest : List ℕ) → list_any is_line_end rest ≡ false → whole_lines (front ++ 10 ∷ rest) ≡ front ++ 10 ∷ []
whole_lines-last [] rest none = ap (λ (l : List ℕ). 10 ∷ l) (whole_lines-none rest none)
whole_lines-last (c ∷ front) rest none =
    ap (λ (b : Bool). cond b (c ∷ whole_lines (front ++ 10 ∷ rest)) []) (any_last (c ∷ front) rest)
    ∙ ap (λ (l : List ℕ). c ∷ l) (whole_lines-last front rest none)

-- the parts of whole lines all end
record HasEnded (text : List ℕ) : Type 0 where
  ended : List (List ℕ)
  split : (rest : List ℕ) → slice_split is_line_end (text ++ rest) ≡ ended ++ slice_split is_line_end rest
  some : list_any is_line_end text ≡ true → HasPart ended

ended_by : (b : Bool) (c : ℕ) (text : List ℕ) → is_line_end c ≡ b → (b || list_any is_line_end text) ≡ true → HasEnded text → HasEnded (c ∷ text)
ended_by true c text is any h = record {
  ended = [] ∷ h.ended;
  split = λ rest.
      ap (λ (e : Bool). cond e ([] ∷ slice_split is_line_end (text ++ rest)) (onto_first c (slice_split is_line_end (text ++ rest)))) is
      ∙ ap (λ (ps : List (List ℕ)). [] ∷ ps) (h.split rest);
  some = λ any. record { first = []; more = h.ended; is = refl };
}
ended_by false c text is any h =
    let part = h.some any in
    record {
      ended = (c ∷ part.first) ∷ part.more;
      split = λ rest.
          ap (λ (e : Bool). cond e ([] ∷ slice_split is_line_end (text ++ rest)) (onto_first c (slice_split is_line_end (text ++ rest)))) is
          ∙ ap (onto_first c) (h.split rest)
          ∙ ap (λ (ps : List (List ℕ)). onto_first c (ps ++ slice_split is_line_end rest)) part.is;
      some = λ any. record { first = c ∷ part.first; more = part.more; is = refl };
    }

all_ended : (text : List ℕ) → IsWhole text → HasEnded text
all_ended [] whole = record { ended = []; split = λ rest. refl; some = λ any. absurd (false≢true any) }
all_ended (c ∷ text) whole = ended_by (is_line_end c) c text refl whole.0 (all_ended text whole.1)

part_before : (ended parts : List (List ℕ)) → HasPart parts → HasPart (ended ++ parts)
part_before [] parts h = h
part_before (part ∷ ended) parts h = record { first = part; more = ended ++ parts; is = refl }

lines_of_ended : (ended parts : List (List ℕ)) → HasPart parts → lines_of_parts (ended ++ parts) ≡ map strip_carriage_return ended ++ lines_of_parts parts
lines_of_ended [] parts h = refl
lines_of_ended (part ∷ ended) parts h =
    ended_first part (ended ++ parts) (part_before ended parts h)
    ∙ ap (λ (ls : List (List ℕ)). strip_carriage_return part ∷ ls) (lines_of_ended ended parts h)

-- whole lines say the same, whatever follows them
pub whole_says : (text : List ℕ) → IsWhole text → Says text (script_of text)
whole_says text whole =
    let h = all_ended text whole in
    let said = map strip_carriage_return h.ended in
    let says : Says text (map meaning said) = record {
      before = λ rest.
          ap (λ (ps : List (List ℕ)). map meaning (lines_of_parts ps)) (h.split rest)
          ∙ ap (map meaning) (lines_of_ended h.ended (slice_split is_line_end rest) (some_part rest))
          ∙ map-append meaning said (lines rest);
    } in
    subst (Says text) (sym (Says-whole text (map meaning said) says)) says

-- whole lines are the lines that have ended
ended_of : (ended : List (List ℕ)) → ended_parts (ended ++ [] ∷ []) ≡ map strip_carriage_return ended
ended_of [] = refl
ended_of (part ∷ []) = refl
ended_of (part ∷ next ∷ more) = ap (λ (ls : List (List ℕ)). strip_carriage_return part ∷ ls) (ended_of (next ∷ more))

whole_ended : (text : List ℕ) → IsWhole text → lines text ≡ ended_lines text
unfolding ended_lines
whole_ended text whole =
    let h = all_ended text whole in
    let parts : slice_split is_line_end text ≡ h.ended ++ [] ∷ [] = ap (slice_split is_line_end) (sym (append-nil text)) ∙ h.split [] in
    ap lines_of_parts parts
    ∙ lines_of_ended h.ended ([] ∷ []) (some_part [])
    ∙ append-nil (map strip_carriage_return h.ended)
    ∙ sym (ap ended_parts parts ∙ ended_of h.ended)

none_ended : (bytes rest : List ℕ) → list_any is_line_end rest ≡ false → ended_lines (bytes ++ rest) ≡ ended_lines bytes
none_ended bytes [] none = ap ended_lines (append-nil bytes)
none_ended bytes (c ∷ rest) none =
    let parts = or_parts (is_line_end c) (list_any is_line_end rest) none in
    ap ended_lines (sym (append_assoc bytes (c ∷ []) rest)) ∙ none_ended (bytes ++ c ∷ []) rest parts.1 ∙ ended_lines-other bytes c parts.0

pub whole_lines-ended : (text : List ℕ) → lines (whole_lines text) ≡ ended_lines text
whole_lines-ended text =
    let h = whole_lines-rest text in
    whole_ended (whole_lines text) (whole_lines-whole text)
    ∙ sym (ap ended_lines (sym h.is) ∙ none_ended (whole_lines text) h.rest h.none)

-- a front of a line and more reaches beyond the line
pub record IsBeyond (line rest front : List ℕ) : Type 0 where
  pub more : List ℕ
  pub is : front ≡ line ++ 10 ∷ more
  pub left : IsPrefix more rest

front_of : (line rest front : List ℕ) → list_any is_line_end line ≡ false → IsPrefix front (line ++ 10 ∷ rest)
    → (list_any is_line_end front ≡ false) ⊎ IsBeyond line rest front
front_of [] rest [] one of = inl refl
front_of [] rest (c ∷ front) one (more, is) =
    let head : c ≡ 10 = cc is in
    let tail : front ++ more ≡ rest = cc is in
    inr (record { more = front; is = ap (λ (b : ℕ). b ∷ front) head; left = (more, tail) })
front_of (d ∷ line) rest [] one of = inl refl
front_of (d ∷ line) rest (c ∷ front) one (more, is) =
    let parts = or_parts (is_line_end d) (list_any is_line_end line) one in
    let head : c ≡ d = cc is in
    let tail : front ++ more ≡ line ++ 10 ∷ rest = cc is in
    elim (front_of line rest front parts.1 (more, tail)) [
      | inl none ↦ inl (rw (head, parts.0) none)
      | inr beyond ↦ inr (record { more = beyond.more; is = (λ i. head i ∷ beyond.is i); left = beyond.left })
    ]

whole_rest : (line more : List ℕ) → IsWhole (line ++ 10 ∷ more) → IsWhole more
whole_rest [] more whole = whole.1
whole_rest (c ∷ line) more whole = whole_rest line more whole.1

-- whole lines at the front of a line and more: none, or the line and whole lines at the front of what follows it
pub record IsWholeBeyond (line rest front : List ℕ) : Type 0 where
  pub more : List ℕ
  pub is : front ≡ line ++ more
  pub left : IsPrefix more rest
  pub whole : IsWhole more

none_whole : (front : List ℕ) → IsWhole front → list_any is_line_end front ≡ false → front ≡ []
none_whole [] whole none = refl
none_whole (c ∷ front) whole none = absurd (false≢true (sym none ∙ whole.0))

-- a text of one line
pub record IsLineText (text : List ℕ) : Type 0 where
  pub line : List ℕ
  pub one : list_any is_line_end line ≡ false
  pub is : text ≡ line ++ 10 ∷ []

pub whole_front : (text rest front : List ℕ) → IsLineText text → IsPrefix front (text ++ rest) → IsWhole front
    → (front ≡ []) ⊎ IsWholeBeyond text rest front
whole_front text rest front h of whole =
    let line = h.line in
    let at : text ++ rest ≡ line ++ 10 ∷ rest = ap (λ (t : List ℕ). t ++ rest) h.is ∙ append_assoc line (10 ∷ []) rest in
    elim (front_of line rest front h.one (subst (IsPrefix front) at of)) [
      | inl none ↦ inl (none_whole front whole none)
      | inr beyond ↦ inr (record {
        more = beyond.more;
        is = beyond.is ∙ sym (append_assoc line (10 ∷ []) beyond.more) ∙ ap (λ (t : List ℕ). t ++ beyond.more) (sym h.is);
        left = beyond.left;
        whole = whole_rest line beyond.more (subst IsWhole beyond.is whole);
      })
    ]
