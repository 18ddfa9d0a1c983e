-- The first line of a text.
use Rattle.std.proofs.Common.{◌≡◌, ℕ, ◌+◌, ◌<◌, ◌≤◌, Bool, true, false, cond, List, [], ◌∷◌, length, take, drop, refl, ap, ◌∙◌, subst₂, arith, length-drop}
use Rattle.std.specs.Prelude.{◌==◌, nat_lt, Some, None, option_map}
use Rattle.std.specs.List.{slice_split, position_or_len, before_first, after_first}
use Rattle.std.specs.Str.Lines.{lines_of_parts, strip_carriage_return}
use Rattle.std.proofs.lemmas.List.Splits.{slice_split_first, slice_split_none, length-slice_split}
use Rattle.std.proofs.lemmas.List.Sums.{fails_before_first}
use Rattle.std.proofs.lemmas.Bool.{ltb-false}
use borrow.Author.Tests.{ltb-true}
use Rattle.history_model.specs.text.Parts.{parts_at}
use Rattle.play_schedule.specs.inner.Lines.{StartsWithLine}

-- the byte LF
abbrev is_end : ℕ → Bool
is_end c = c == 10

lines-cons : (line : List ℕ) (parts : List (List ℕ)) → 0 < length parts → lines_of_parts (line ∷ parts) ≡ strip_carriage_return line ∷ lines_of_parts parts
lines-cons line [] l = absurd (omega arith)
lines-cons line (part ∷ parts) l = refl

-- a text with a line feed begins with the line before the first, without a carriage return at its end
cut_line : (text : List ℕ) → position_or_len is_end text < length text → StartsWithLine text (strip_carriage_return (before_first is_end text)) (after_first is_end text)
cut_line text l = record {
  lines = ap lines_of_parts (slice_split_first is_end text 0 l)
      ∙ lines-cons (before_first is_end text) (slice_split is_end (after_first is_end text)) (omega (arith, length-slice_split is_end (after_first is_end text)));
  shorter = omega (arith, length-drop (position_or_len is_end text + 1) text);
}

-- the bytes before and after a position
abbrev cut_at : List ℕ → ℕ → List ℕ × List ℕ
cut_at text at = (take at text, drop (at + 1) text)

pub first_line_ended : (text line rest : List ℕ) → parts_at 10 text ≡ Some (line, rest) → StartsWithLine text (strip_carriage_return line) rest
first_line_ended text line rest e = by (nat_lt (position_or_len is_end text) (length text)) refl e
  where
    by : (b : Bool) → nat_lt (position_or_len is_end text) (length text) ≡ b → option_map (cut_at text) (cond b (Some (position_or_len is_end text)) None) ≡ Some (line, rest) → StartsWithLine text (strip_carriage_return line) rest
    by true h s =
        let same : cut_at text (position_or_len is_end text) ≡ (line, rest) = cc in
        subst₂ (λ (a b : List ℕ). StartsWithLine text (strip_carriage_return a) b) (ap (λ (p : List ℕ × List ℕ). p.0) same) (ap (λ (p : List ℕ × List ℕ). p.1) same) (cut_line text (ltb-true _ _ h))
    by false h s = absurd (cc)

lines-one : (text : List ℕ) → 0 < length text → lines_of_parts (text ∷ []) ≡ text ∷ []
lines-one text l =
    let some : (length text == 0) ≡ false = grind arith in
    ap (λ (none : Bool). cond none [] (text ∷ [])) some

-- a text without a line feed is one line
pub first_line_last : (text : List ℕ) → parts_at 10 text ≡ None → 0 < length text → StartsWithLine text text []
first_line_last text e l = by (nat_lt (position_or_len is_end text) (length text)) refl e
  where
    one : length text ≤ position_or_len is_end text → slice_split is_end text ≡ text ∷ []
    one h = slice_split_none is_end text (λ k d m. fails_before_first is_end text k d (omega arith))

    by : (b : Bool) → nat_lt (position_or_len is_end text) (length text) ≡ b → option_map (cut_at text) (cond b (Some (position_or_len is_end text)) None) ≡ None → StartsWithLine text text []
    by true h s = absurd (cc)
    by false h s = record { lines = ap lines_of_parts (one (ltb-false _ _ h)) ∙ lines-one text l; shorter = l }
