-- What a text says, line by line from its front.
use Rattle.std.proofs.Common.{◌≡◌, ℕ, Bool, true, false, cond, List, [], ◌∷◌, ◌++◌, map, refl, sym, ap, ◌∙◌, append_assoc, append-nil}
use Rattle.std.specs.List.{list_any, onto_first, slice_split}
use Rattle.std.specs.Str.Lines.{lines, lines_of_parts, strip_carriage_return}
use Rattle.std.proofs.lemmas.Bool.{or_parts}
use Rattle.amcp_text.specs.Lines.{is_line_end}
use Rattle.history_model.specs.scripts.Line.{ScriptLine, meaning}

-- a line: it has no line feed, and no carriage return at its end
pub record IsLine (line : List ℕ) : Type 0 where
  pub one : list_any is_line_end line ≡ false
  pub bare : strip_carriage_return line ≡ line

-- a text is cut at its first line feed
split_at : (line rest : List ℕ) → list_any is_line_end line ≡ false → slice_split is_line_end (line ++ 10 ∷ rest) ≡ line ∷ slice_split is_line_end rest
split_at [] rest one = refl
split_at (c ∷ line) rest one =
    let parts = or_parts (is_line_end c) (list_any is_line_end line) one in
    rw (parts.0, split_at line rest parts.1) refl

-- there is always a last part, after which no line ends
pub record HasPart (parts : List (List ℕ)) : Type 0 where
  pub first : List ℕ
  pub more : List (List ℕ)
  pub is : parts ≡ first ∷ more

part_by : (ends : Bool) (c : ℕ) (parts : List (List ℕ)) → HasPart parts → HasPart (cond ends ([] ∷ parts) (onto_first c parts))
part_by true c parts h = record { first = []; more = parts; is = refl }
part_by false c parts h = record { first = c ∷ h.first; more = h.more; is = ap (onto_first c) h.is }

pub some_part : (text : List ℕ) → HasPart (slice_split is_line_end text)
some_part [] = record { first = []; more = []; is = refl }
some_part (c ∷ text) = part_by (is_line_end c) c (slice_split is_line_end text) (some_part text)

pub ended_first : (line : List ℕ) (parts : List (List ℕ)) → HasPart parts → lines_of_parts (line ∷ parts) ≡ strip_carriage_return line ∷ lines_of_parts parts
ended_first line parts h =
    ap (λ ps. lines_of_parts (line ∷ ps)) h.is ∙ sym (ap (λ ps. strip_carriage_return line ∷ lines_of_parts ps) h.is)

pub lines-first : (line rest : List ℕ) → IsLine line → lines (line ++ 10 ∷ rest) ≡ line ∷ lines rest
lines-first line rest h =
    ap lines_of_parts (split_at line rest h.one)
    ∙ ended_first line (slice_split is_line_end rest) (some_part rest)
    ∙ ap (λ l. l ∷ lines rest) h.bare

-- a text of whole lines says this, whatever follows it
pub record Says (text : List ℕ) (said : List ScriptLine) : Type 0 where
  pub before : (rest : List ℕ) → map meaning (lines (text ++ rest)) ≡ said ++ map meaning (lines rest)

pub Says-none : Says [] []
Says-none = record { before = λ rest. refl }

pub Says-line : (line : List ℕ) (says : ScriptLine) → IsLine line → meaning line ≡ says → Says (line ++ 10 ∷ []) (says ∷ [])
Says-line line says h is = record {
  before = λ rest.
      ap (λ t. map meaning (lines t)) (append_assoc line (10 ∷ []) rest)
      ∙ ap (map meaning) (lines-first line rest h)
      ∙ ap (λ m. m ∷ map meaning (lines rest)) is;
}

pub Says-append : (a b : List ℕ) (x y : List ScriptLine) → Says a x → Says b y → Says (a ++ b) (x ++ y)
Says-append a b x y first last = record {
  before = λ rest.
      ap (λ t. map meaning (lines t)) (append_assoc a b rest)
      ∙ first.before (b ++ rest)
      ∙ ap (λ more. x ++ more) (last.before rest)
      ∙ sym (append_assoc x y (map meaning (lines rest)));
}

-- and it says no more
pub Says-whole : (text : List ℕ) (said : List ScriptLine) → Says text said → map meaning (lines text) ≡ said
Says-whole text said h =
    ap (λ t. map meaning (lines t)) (sym (append-nil text)) ∙ h.before [] ∙ append-nil said
