-- What a line reader keeps, and the bytes that it represents.
use Rattle.std.proofs.Common.{◌≡◌, ℕ, ◌+◌, ◌-◌, ◌<◌, ◌≤◌, min, true, false, cond, ◌||◌, List, [], ◌∷◌, ◌++◌, take, length, get_or, refl, sym, ap, ◌∙◌, arith, inl, inr, append_assoc}
use Rattle.std.proofs.Math.Bool.{or-false}
use Rattle.std.specs.Prelude.{Some, None, nat_lt, ◌==◌, slice_index}
use Rattle.std.specs.List.{list_any, before_first, after_first, position}
use Rattle.std.specs.Str.Lines.{strip_carriage_return}
use Rattle.std.proofs.Math.Seq.{take-append-add}
use Rattle.std.proofs.lemmas.Bool.{or_from, or_right, cases_lt, lt-ltb, le-ltb, eqb-true, cond_both}
use Rattle.std.proofs.lemmas.Bool.Decides.{nat_tests}
use Rattle.std.proofs.lemmas.List.{take_min, take_all, take-take, take-append-le, take_more, length-take, length-append}
use Rattle.std.proofs.lemmas.List.Folds.{list_any-append}
use Rattle.std.proofs.lemmas.List.Quantifiers.{position-Some}
use Rattle.amcp_text.specs.Lines.{Line, TooLong, is_line_end, line_of, lines_of, IsEnded}
use Rattle.amcp_text.specs.ReaderState.{ReaderState}
use Rattle.amcp_text.specs.Reader.{Represents, with_text, line_kept}
use Rattle.amcp_text.proofs.FirstEnd.{before_first_none, after_first_none, before_first_at, after_first_at, cut_at_first, list_any-before_first, list_any_from_position, list_any-take_position}
use Rattle.amcp_text.proofs.LineLaws.{lines_of_none, lines_of_at}

-- what is kept is a prefix of the text so far
take_kept : (kept text : List ℕ) → length kept ≤ 4097
    → kept ++ take (min (length text) (4097 - length kept)) text ≡ take 4097 (kept ++ text)
take_kept kept text fits =
    let room = 4097 - length kept in
    let swapped : min (length text) room ≡ min room (length text) = omega arith in
    let whole : length kept + room ≡ 4097 = omega arith in
    rw (swapped, take_min room text, ← take-append-add kept text room, whole) refl

-- the text was kept whole
pub with_text_whole : (r : ReaderState) (text kept : List ℕ) → length r.kept ≤ 4097
    → kept ≡ r.kept ++ take (min (length text) (4097 - length r.kept)) text
    → length text ≤ min (length text) (4097 - length r.kept)
    → record { kept = kept; over = r.over; held = r.held } ≡ with_text r text
with_text_whole r text kept fits e whole =
    let all = e ∙ take_kept r.kept text fits in
    let short = le-ltb 4097 (length (r.kept ++ text)) (omega (arith, length-append r.kept text)) in
    rw (all, short, or-false r.over) refl

-- only a prefix of the text was kept
pub with_text_over : (r : ReaderState) (text kept : List ℕ) → length r.kept ≤ 4097
    → kept ≡ r.kept ++ take (min (length text) (4097 - length r.kept)) text
    → min (length text) (4097 - length r.kept) < length text
    → record { kept = kept; over = true; held = r.held } ≡ with_text r text
with_text_over r text kept fits e part =
    let all = e ∙ take_kept r.kept text fits in
    let long = lt-ltb 4097 (length (r.kept ++ text)) (omega (arith, length-append r.kept text)) in
    rw (all, or_right r.over (nat_lt 4097 (length (r.kept ++ text))) long) refl

take_prefix : (n : ℕ) (xs ys : List ℕ) → take n (take n xs ++ ys) ≡ take n (xs ++ ys)
take_prefix n xs ys = elim (cases_lt (length xs) n) [
  | inl short ↦ rw (take_all n xs (omega arith)) refl
  | inr long ↦
      rw (take-append-le n (take n xs) ys (omega (arith, length-take n xs)), take-take n n xs (omega arith), take-append-le n xs ys long) refl
]

over_more : (n : ℕ) (xs ys : List ℕ) → (nat_lt n (length xs) || nat_lt n (length (take n xs ++ ys))) ≡ nat_lt n (length (xs ++ ys))
over_more n xs ys = simp (length-append, length-take) (grind (arith, nat_tests))

-- more text of the line came
pub Represents-text : (r : ReaderState) (bytes text : List ℕ) → Represents r bytes → r.held ≡ false → list_any is_line_end text ≡ false
    → Represents (with_text r text) (bytes ++ text)
Represents-text r bytes text s unheld none =
    let unended = sym s.held ∙ unheld in
    let joined = list_any-append is_line_end bytes text ∙ or_from _ _ unended none in
    let all = before_first_none is_line_end bytes unended in
    let all_joined = before_first_none is_line_end (bytes ++ text) joined in
    let kept = s.kept ∙ ap (take 4097) all in
    let over = s.over ∙ ap (λ (bs : List ℕ). nat_lt 4097 (length bs)) all in
    record {
      one_line = after_first_none is_line_end (bytes ++ text) joined;
      kept = rw (all_joined, kept) (take_prefix 4097 bytes text);
      over = rw (all_joined, kept, over) (over_more 4097 bytes text);
      held = unheld ∙ sym joined;
    }

-- the end of the line came
pub Represents-end : (r : ReaderState) (bytes : List ℕ) → Represents r bytes → r.held ≡ false
    → Represents (record { kept = r.kept; over = r.over; held = true }) (bytes ++ 10 ∷ [])
Represents-end r bytes s unheld =
    let unended = sym s.held ∙ unheld in
    let same = before_first_at is_line_end bytes 10 [] unended refl ∙ sym (before_first_none is_line_end bytes unended) in
    record {
      one_line = after_first_at is_line_end bytes 10 [] unended refl;
      kept = rw same s.kept;
      over = rw same s.over;
      held = sym (list_any-append is_line_end bytes (10 ∷ []) ∙ or_right _ _ refl);
    }

-- a piece without a line end was taken whole
pub Represents-piece : (r : ReaderState) (piece bytes : List ℕ) → position is_line_end piece ≡ None → r.held ≡ false → Represents r bytes
    → Represents (with_text r piece) (bytes ++ take (length piece) piece)
Represents-piece r piece bytes none unheld s =
    rw (take_all (length piece) piece (omega arith))
    (Represents-text r bytes piece s unheld (list_any_from_position is_line_end piece none))

-- a piece was taken up to and with its first line end
pub Represents-line_end : (r after : ReaderState) (piece bytes : List ℕ) (end : ℕ) → position is_line_end piece ≡ Some end → r.held ≡ false
    → after ≡ with_text r (take end piece) → Represents r bytes
    → Represents (record { kept = after.kept; over = after.over; held = true }) (bytes ++ take (end + 1) piece)
Represents-line_end r after piece bytes end found unheld e s =
    let place = position-Some is_line_end piece end 0 found in
    let text = Represents-text r bytes (take end piece) s unheld (list_any-take_position is_line_end piece end found) in
    rw (e, take_more piece end 0 place.0, eqb-true (get_or piece end 0) 10 place.1, ← append_assoc bytes (take end piece) (10 ∷ []))
    (Represents-end (with_text r (take end piece)) (bytes ++ take end piece) text unheld)

length-strip_carriage_return : (l : List ℕ) → length l - 1 ≤ length (strip_carriage_return l)
length-strip_carriage_return l =
    cond_both (slice_index l (length l - 1) == 13) (take (length l - 1) l) l (λ t. length l - 1 ≤ length t)
    (λ _. omega (arith, length-take (length l - 1) l)) (λ _. omega arith)

-- what is kept of a line determines which line it is
line_of_kept : (part : List ℕ) → cond (nat_lt 4097 (length part)) TooLong (line_of (take 4097 part)) ≡ line_of part
line_of_kept part = elim (cases_lt 4097 (length part)) [
  | inl long ↦
      let text = lt-ltb 4096 (length (strip_carriage_return part)) (omega (arith, length-strip_carriage_return part)) in
      rw (lt-ltb 4097 (length part) long, text) refl
  | inr short ↦ rw (le-ltb 4097 (length part) short, take_all 4097 part short) refl
]

-- if no line is held, the bytes have none
pub lines_unheld : (r : ReaderState) (bytes : List ℕ) → Represents r bytes → r.held ≡ false → lines_of bytes ≡ []
lines_unheld r bytes s unheld = lines_of_none bytes (sym s.held ∙ unheld)

-- if a line is held, the bytes are that line
pub record HoldsLine (r : ReaderState) (bytes : List ℕ) : Type 0 where
  pub ended : IsEnded bytes
  pub first : (rest : List ℕ) → lines_of (bytes ++ rest) ≡ line_kept r ∷ lines_of rest

pub lines_held : (r : ReaderState) (bytes : List ℕ) → Represents r bytes → r.held ≡ true → HoldsLine r bytes
lines_held r bytes s held =
    let cut = cut_at_first is_line_end bytes (sym s.held ∙ held) in
    let part = before_first is_line_end bytes in
    let whole : bytes ≡ part ++ 10 ∷ [] =
    cut.whole ∙ ap (λ (y : ℕ). part ++ y ∷ after_first is_line_end bytes) (eqb-true cut.at 10 cut.passes)
    ∙ ap (λ (t : List ℕ). part ++ 10 ∷ t) s.one_line in
    let kept : line_kept r ≡ line_of part = rw (s.over, s.kept) (line_of_kept part) in
    record {
      ended = inr (part, whole);
      first = λ rest.
          ap (λ (bs : List ℕ). lines_of (bs ++ rest)) whole ∙ ap lines_of (append_assoc part (10 ∷ []) rest)
          ∙ lines_of_at part rest (list_any-before_first is_line_end bytes) ∙ ap (λ (l : Line). l ∷ lines_of rest) (sym kept);
    }
