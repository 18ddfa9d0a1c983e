-- The lines of a stream, one after another.
use Rattle.std.proofs.Common.{◌≡◌, ℕ, ◌-◌, ◌<◌, ◌≤◌, suc, true, false, List, [], ◌∷◌, ◌++◌, map, take, length, refl, sym, ap, ◌∙◌, arith, inl, inr, append_assoc, append-nil}
use Rattle.std.specs.List.{list_any, slice_split}
use Rattle.std.specs.Str.{chars, is_utf8, IsUtf8}
use Rattle.std.proofs.lemmas.Bool.{or_parts, or_from, cases_Bool, le-ltb, false_from_ne_true}
use Rattle.std.proofs.lemmas.List.{map-append, length-append, get_or_push, take_at}
use Rattle.std.proofs.lemmas.List.Folds.{list_any-append}
use Rattle.std.proofs.lemmas.List.Splits.{length-slice_split}
use Rattle.std.proofs.lemmas.Str.{IsUtf8-from_is_utf8, is_utf8-from_IsUtf8}
use Rattle.amcp_text.specs.Lines.{Line, Text, NotUtf8, is_line_end, line_of_text, line_of, ended_parts, lines_of, IsEnded}

pub line_of_text_utf8 : (text : List ℕ) → length text ≤ 4096 → IsUtf8 text → Text (chars text) ≡ line_of_text text
line_of_text_utf8 text short utf8 = rw (le-ltb 4096 (length text) short, is_utf8-from_IsUtf8 text utf8) refl

pub line_of_text_not_utf8 : (text : List ℕ) → length text ≤ 4096 → ¬ (IsUtf8 text) → NotUtf8 ≡ line_of_text text
line_of_text_not_utf8 text short other =
    rw (le-ltb 4096 (length text) short, false_from_ne_true (is_utf8 text) (λ e. other (IsUtf8-from_is_utf8 text e))) refl

split_none : (bytes : List ℕ) → list_any is_line_end bytes ≡ false → slice_split is_line_end bytes ≡ bytes ∷ []
split_none [] h = refl
split_none (x ∷ xs) h =
    let parts = or_parts (is_line_end x) (list_any is_line_end xs) h in
    rw (parts.0, split_none xs parts.1) refl

split_at : (part : List ℕ) (y : ℕ) (rest : List ℕ) → list_any is_line_end part ≡ false → is_line_end y ≡ true
    → slice_split is_line_end (part ++ y ∷ rest) ≡ part ∷ slice_split is_line_end rest
split_at [] y rest h passes = rw passes refl
split_at (x ∷ xs) y rest h passes =
    let parts = or_parts (is_line_end x) (list_any is_line_end xs) h in
    rw (parts.0, split_at xs y rest parts.1 passes) refl

all_but_last : (part : List ℕ) (parts : List (List ℕ)) → 0 < length parts
    → take (length (part ∷ parts) - 1) (part ∷ parts) ≡ part ∷ take (length parts - 1) parts
all_but_last part [] h = absurd (omega arith)
all_but_last part (next ∷ more) h =
    let e : length (part ∷ next ∷ more) - 1 ≡ suc (length more) = omega arith in
    let f : length (next ∷ more) - 1 ≡ length more = omega arith in
    rw (e, f) refl

pub ended_parts_none : (bytes : List ℕ) → list_any is_line_end bytes ≡ false → ended_parts bytes ≡ []
ended_parts_none bytes h = rw (split_none bytes h) refl

pub ended_parts_at : (part : List ℕ) (y : ℕ) (rest : List ℕ) → list_any is_line_end part ≡ false → is_line_end y ≡ true
    → ended_parts (part ++ y ∷ rest) ≡ part ∷ ended_parts rest
ended_parts_at part y rest h passes =
    rw (split_at part y rest h passes)
    (all_but_last part (slice_split is_line_end rest) (omega (arith, length-slice_split is_line_end rest)))

-- bytes without a line end hold no line
pub lines_of_none : (bytes : List ℕ) → list_any is_line_end bytes ≡ false → lines_of bytes ≡ []
lines_of_none bytes h = ap (map line_of) (ended_parts_none bytes h)

-- the first line of a stream, and those after it
pub lines_of_at : (part rest : List ℕ) → list_any is_line_end part ≡ false → lines_of (part ++ 10 ∷ rest) ≡ line_of part ∷ lines_of rest
lines_of_at part rest h = ap (map line_of) (ended_parts_at part 10 rest h refl)

-- a CR before the line end belongs to it
pub line_of_return : (text : List ℕ) → line_of (text ++ 13 ∷ []) ≡ line_of_text text
line_of_return text =
    let before : length (text ++ 13 ∷ []) - 1 ≡ length text = omega (arith, length-append text (13 ∷ [])) in
    rw (before, get_or_push text 13 0 (length text) refl, take_at text (13 ∷ []) (length text) refl) refl

-- a text with CR LF after it is one line
pub lines_of_return : (text rest : List ℕ) → list_any is_line_end text ≡ false
    → lines_of (text ++ 13 ∷ 10 ∷ rest) ≡ line_of_text text ∷ lines_of rest
lines_of_return text rest h =
    let part = list_any-append is_line_end text (13 ∷ []) ∙ or_from _ _ h refl in
    ap lines_of (sym (append_assoc text (13 ∷ []) (10 ∷ rest))) ∙ lines_of_at (text ++ 13 ∷ []) rest part
    ∙ ap (λ (l : Line). l ∷ lines_of rest) (line_of_return text)

-- the bytes after the part are taken one by one
parts_append : (part bytes rest : List ℕ) → list_any is_line_end part ≡ false
    → ended_parts (part ++ (bytes ++ 10 ∷ rest)) ≡ ended_parts (part ++ (bytes ++ 10 ∷ [])) ++ ended_parts rest
parts_append part [] rest h = rw (ended_parts_at part 10 rest h refl, ended_parts_at part 10 [] h refl) refl
parts_append part (x ∷ xs) rest h = elim (cases_Bool (is_line_end x)) [
  | inl passes ↦
      rw (ended_parts_at part x (xs ++ 10 ∷ rest) h passes, ended_parts_at part x (xs ++ 10 ∷ []) h passes)
      (ap (λ (ps : List (List ℕ)). part ∷ ps) (parts_append [] xs rest refl))
  | inr fails ↦
      rw (← append_assoc part (x ∷ []) (xs ++ 10 ∷ rest), ← append_assoc part (x ∷ []) (xs ++ 10 ∷ []))
      (parts_append (part ++ x ∷ []) xs rest (list_any-append is_line_end part (x ∷ []) ∙ or_from _ _ h (or_from _ _ fails refl)))
]

-- the lines of a stream that is cut at a line end
pub lines_of-append : (whole rest : List ℕ) → IsEnded whole → lines_of (whole ++ rest) ≡ lines_of whole ++ lines_of rest
lines_of-append whole rest (inl none) = rw none refl
lines_of-append whole rest (inr (prefix, e)) =
    rw (e, append_assoc prefix (10 ∷ []) rest, ← map-append line_of (ended_parts (prefix ++ 10 ∷ [])) (ended_parts rest))
    (ap (map line_of) (parts_append [] prefix rest refl))

-- two streams that end where a line ends, one after the other, end where a line ends
pub IsEnded-append : (a b : List ℕ) → IsEnded a → IsEnded b → IsEnded (a ++ b)
IsEnded-append a b h (inl none) = rw (none, append-nil a) h
IsEnded-append a b h (inr (prefix, e)) = inr (a ++ prefix, rw (e, append_assoc a prefix (10 ∷ [])) refl)
