-- A text that is cut at its line feeds.
use Rattle.std.proofs.Common.{◌≡◌, ℕ, zero, suc, ◌+◌, ◌<◌, ◌≤◌, Bool, true, false, cond, List, [], ◌∷◌, ◌++◌, length, map, take, drop, get_or, refl, sym, ap, ◌∙◌, subst, subst₂, arith, append-nil, append_assoc}
use Rattle.std.specs.Prelude.{Option, Some, None, option_map, position, nat_lt}
use Rattle.std.specs.List.{list_any, position_or_len}
use Rattle.std.specs.Str.Lines.{strip_carriage_return}
use Rattle.std.proofs.lemmas.Bool.{ltb-false, or_from, or_parts}
use Rattle.std.proofs.lemmas.Bool.Decides.{nat_tests}
use Rattle.std.proofs.lemmas.List.{map-append, take_all, take-append-drop, take_more}
use Rattle.std.proofs.lemmas.List.Quantifiers.{position-Some}
use Rattle.std.proofs.lemmas.List.Sums.{fails_before_first}
use Rattle.std.proofs.lemmas.Option.{same_Some}
use Rattle.amcp_text.specs.Lines.{is_line_end}
use Rattle.history_model.specs.text.Parts.{parts_at}
use Rattle.history_model.specs.scripts.Line.{meaning}
use Rattle.history_model.specs.scripts.Input.{ended_lines, unended}
use Rattle.history_model.specs.scripts.Memory.{with_memory}
use Rattle.history_model.proofs.Parts.{ended_lines-feed, ended_lines-other, unended-feed, unended-other}
use Rattle.history_reader.specs.HistoryText.{with_memory_for}
use Rattle.history_reader.specs.inner.PlayedText.{IsCutAtFeed}

-- bytes without a line feed end no line
pub kept : (done line : List ℕ) → list_any is_line_end line ≡ false
    → (ended_lines (done ++ line) ≡ ended_lines done) × (unended (done ++ line) ≡ unended done ++ line)
kept done [] one = (ap ended_lines (append-nil done), ap unended (append-nil done) ∙ sym (append-nil (unended done)))
kept done (c ∷ line) one =
    let parts = or_parts (is_line_end c) (list_any is_line_end line) one in
    let rest = kept (done ++ c ∷ []) line parts.1 in
    let whole : done ++ c ∷ line ≡ (done ++ c ∷ []) ++ line = sym (append_assoc done (c ∷ []) line) in (
      ap ended_lines whole ∙ rest.0 ∙ ended_lines-other done c parts.0,
      ap unended whole ∙ rest.1 ∙ ap (λ t. t ++ line) (unended-other done c parts.0) ∙ append_assoc (unended done) (c ∷ []) line,
    )

-- one line more
abbrev pub with_line : List ℕ → List ℕ → List ℕ
with_line done line = (done ++ line) ++ 10 ∷ []

pub line_ended : (done line : List ℕ) → unended done ≡ [] → list_any is_line_end line ≡ false
    → (ended_lines (with_line done line) ≡ ended_lines done ++ strip_carriage_return line ∷ []) × (unended (with_line done line) ≡ [])
line_ended done line whole one =
    let same = kept done line one in
    let waits : unended (done ++ line) ≡ line = same.1 ∙ ap (λ t. t ++ line) whole in (
      ended_lines-feed (done ++ line) ∙ (λ i. same.0 i ++ strip_carriage_return (waits i) ∷ []),
      unended-feed (done ++ line),
    )

-- the lines of a text begin with those of its first bytes
pub lines-more : (lines more : List (List ℕ)) → with_memory_for (lines ++ more) ≡ with_memory_for lines ++ with_memory_for more
lines-more lines more = ap (map with_memory) (map-append meaning lines more) ∙ map-append with_memory (map meaning lines) (map meaning more)

-- no byte of the first ones passes a test
none_of_first : (p : ℕ → Bool) (k : ℕ) (xs : List ℕ) → k ≤ length xs → ((j : ℕ) → j < k → p (get_or xs j 0) ≡ false) → list_any p (take k xs) ≡ false
none_of_first p zero xs few each = refl
none_of_first p (suc k) [] few each = absurd (omega (arith, few))
none_of_first p (suc k) (x ∷ xs) few each =
    or_from (p x) (list_any p (take k xs)) (each 0 (omega arith)) (none_of_first p k xs (omega (arith, few)) (λ j less. each (suc j) (omega (arith, less))))

none_at_all : (p : ℕ → Bool) (xs : List ℕ) → position p xs ≡ None → list_any p xs ≡ false
none_at_all p xs none = by (nat_lt (position_or_len p xs) (length xs)) refl none
  where
    by : (b : Bool) → nat_lt (position_or_len p xs) (length xs) ≡ b → cond b (Some (position_or_len p xs)) None ≡ None → list_any p xs ≡ false
    by true is none = absurd (cc)
    by false is none =
        let past : length xs ≤ position_or_len p xs = ltb-false _ _ is in
        subst (λ ys. list_any p ys ≡ false) (take_all (length xs) xs (omega arith))
        (none_of_first p (length xs) xs (omega arith) (λ j less. fails_before_first p xs j 0 (omega (arith, less, past))))

-- the bytes before and after a position
abbrev cut_at : List ℕ → ℕ → List ℕ × List ℕ
cut_at text at = (take at text, drop (at + 1) text)

-- a text is cut at its first line feed
cut_there : (text : List ℕ) (at : ℕ) → position is_line_end text ≡ Some at → IsCutAtFeed text (take at text) (drop (at + 1) text)
cut_there text at is =
    let found = position-Some is_line_end text at 0 is in
    let feed : get_or text at 0 ≡ 10 = (let end = found.1 in grind (arith, nat_tests)) in (
      sym (take-append-drop (at + 1) text)
          ∙ ap (λ t. t ++ drop (at + 1) text) (take_more text at 0 found.0)
          ∙ append_assoc (take at text) (get_or text at 0 ∷ []) (drop (at + 1) text)
          ∙ ap (λ c. take at text ++ c ∷ drop (at + 1) text) feed,
      none_of_first is_line_end at text (let inside = found.0 in omega (arith, inside)) found.2,
    )

cut_by : (text line rest : List ℕ) (found : Option ℕ) → position is_line_end text ≡ found → option_map (cut_at text) found ≡ Some (line, rest)
    → IsCutAtFeed text line rest
cut_by text line rest None is parts = absurd (cc)
cut_by text line rest (Some at) is parts =
    let same : cut_at text at ≡ (line, rest) = same_Some (cut_at text at) (line, rest) parts in
    subst₂ (IsCutAtFeed text) (ap (λ (p : List ℕ × List ℕ). p.0) same) (ap (λ (p : List ℕ × List ℕ). p.1) same) (cut_there text at is)

pub cut_at_feed : (text line rest : List ℕ) → parts_at 10 text ≡ Some (line, rest) → IsCutAtFeed text line rest
cut_at_feed text line rest parts = cut_by text line rest (position is_line_end text) refl parts

uncut_by : (text : List ℕ) (found : Option ℕ) → position is_line_end text ≡ found → option_map (cut_at text) found ≡ None → list_any is_line_end text ≡ false
uncut_by text None is none = none_at_all is_line_end text is
uncut_by text (Some at) is none = absurd (cc)

pub no_feed : (text : List ℕ) → parts_at 10 text ≡ None → list_any is_line_end text ≡ false
no_feed text none = uncut_by text (position is_line_end text) refl none
