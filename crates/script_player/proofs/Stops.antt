-- The line at which a run ends, among all lines of the input.
use Rattle.std.proofs.Common.{◌≡◌, ◌≢◌, ℕ, ◌+◌, ◌<◌, ◌≤◌, Bool, true, false, cond, eqb, List, [], ◌∷◌, ◌++◌, length, refl, sym, ap, ◌∙◌, arith, append-nil, append_assoc, length-append}
use Rattle.std.specs.List.{list_all}
use Rattle.std.specs.Prelude.{nat_le}
use Rattle.std.specs.Str.Lines.{lines, strip_carriage_return}
use Rattle.std.proofs.lemmas.Bool.{false≢true}
use Rattle.std.proofs.lemmas.Bool.Decides.{nat_tests}
use Rattle.std.proofs.lemmas.Grind.{common_steps}
use Rattle.std.proofs.lemmas.List.{map-append, length-map}
use Rattle.history_model.specs.scripts.Line.{ScriptLine, Comment, Said, Rejected, meaning, until_stop}
use Rattle.history_model.specs.scripts.Line as script
use Rattle.history_model.specs.scripts.History.{Playout, PlayedLine, ends_at, goes_on_after, goes_on}
use Rattle.history_model.specs.scripts.Input.{ended_lines, unended, overlong, received}
use Rattle.history_model.proofs.Parts.{last_line, lines-ended, ended_lines-feed, ended_lines-other, unended-other, ended_lines-more}
use Rattle.script_player.specs.Script.{meanings, played_meanings, IsAtLast}
use Rattle.script_player.specs.Script.{is_accepted}
use Rattle.script_player.proofs.Growth.{long-meaning}
use Rattle.script_player.proofs.Endings.{last_line-some, received-short}

-- the lines that have ended are the first of all lines
pub lines_prefix : (prefix more : List ℕ) → (rest : List (List ℕ)) × (lines (prefix ++ more) ≡ ended_lines prefix ++ rest)
lines_prefix prefix more =
    let ended = ended_lines-more prefix more in
    let last = last_line (unended (prefix ++ more)) in (
      ended.0 ++ last,
      lines-ended (prefix ++ more) ∙ ap (λ (ls : List (List ℕ)). ls ++ last) ended.1 ∙ append_assoc (ended_lines prefix) ended.0 last,
    )

length-strip : (text : List ℕ) → length text ≤ length (strip_carriage_return text) + 1
length-strip text = grind (arith, nat_tests, common_steps)

-- a line that has too many bytes before its end has too many, whatever follows
pub long_prefix : (prefix more : List ℕ) → 8194 ≤ length (unended prefix)
    → (line : List ℕ) × (rest : List (List ℕ)) × (8193 ≤ length line) × (lines (prefix ++ more) ≡ ended_lines prefix ++ line ∷ rest)
long_prefix prefix [] long = (
  unended prefix,
  [],
  omega (arith, long),
  ap lines (append-nil prefix) ∙ lines-ended prefix
      ∙ ap (λ (ls : List (List ℕ)). ended_lines prefix ++ ls) (last_line-some (unended prefix) (omega (arith, long))),
)
long_prefix prefix (c ∷ more) long = by_byte (eqb c 10) refl (λ longer. long_prefix (prefix ++ c ∷ []) more longer)
  where
    by_byte : (b : Bool) → eqb c 10 ≡ b
        → (8194 ≤ length (unended (prefix ++ c ∷ [])) → (line : List ℕ) × (rest : List (List ℕ)) × (8193 ≤ length line) × (lines ((prefix ++ c ∷ []) ++ more) ≡ ended_lines (prefix ++ c ∷ []) ++ line ∷ rest))
        → (line : List ℕ) × (rest : List (List ℕ)) × (8193 ≤ length line) × (lines (prefix ++ c ∷ more) ≡ ended_lines prefix ++ line ∷ rest)
    by_byte true is later =
        let feed : c ≡ 10 = grind (arith, nat_tests) in
        let line = strip_carriage_return (unended prefix) in
        let next = lines_prefix (prefix ++ c ∷ []) more in (
          line,
          next.0,
          omega (arith, long, length-strip (unended prefix)),
          ap lines (sym (append_assoc prefix (c ∷ []) more)) ∙ next.1
              ∙ ap (λ (ls : List (List ℕ)). ls ++ next.0) (ap (λ (k : ℕ). ended_lines (prefix ++ k ∷ [])) feed ∙ ended_lines-feed prefix)
              ∙ append_assoc (ended_lines prefix) (line ∷ []) next.0,
        )
    by_byte false is later =
        let waits = ap length (unended-other prefix c is) ∙ length-append (unended prefix) (c ∷ []) in
        let next = later (omega (arith, long, waits)) in (
          next.0,
          next.1,
          next.2,
          ap lines (sym (append_assoc prefix (c ∷ []) more)) ∙ next.3
              ∙ ap (λ (ls : List (List ℕ)). ls ++ next.0 ∷ next.1) (ended_lines-other prefix c is),
        )

short_by : (text : List ℕ) → nat_le 8194 (length text) ≡ false → length text < 8194
short_by text is = grind (arith, nat_tests)

long_by : (text : List ℕ) → nat_le 8194 (length text) ≡ true → (overlong text ≡ text ∷ []) × (8194 ≤ length text)
long_by text is = (rw is refl, grind (arith, nat_tests))

-- the meanings of the lines that were received are the first of the meanings of all lines
pub received_prefix : (prefix more : List ℕ) → (rest : List ScriptLine) × (meanings (lines (prefix ++ more)) ≡ meanings (received prefix false) ++ rest)
received_prefix prefix more = by_size (nat_le 8194 (length (unended prefix))) refl
  where
    by_size : (b : Bool) → nat_le 8194 (length (unended prefix)) ≡ b → (rest : List ScriptLine) × (meanings (lines (prefix ++ more)) ≡ meanings (received prefix false) ++ rest)
    by_size false is =
        let all = lines_prefix prefix more in (
          meanings all.0,
          ap meanings all.1 ∙ map-append meaning (ended_lines prefix) all.0
              ∙ ap (λ ls. meanings ls ++ meanings all.0) (sym (received-short prefix (short_by (unended prefix) is))),
        )
    by_size true is =
        let over = long_by (unended prefix) is in
        let size = over.1 in
        let all = long_prefix prefix more over.1 in (
          meanings all.1,
          ap meanings all.3 ∙ map-append meaning (ended_lines prefix) (all.0 ∷ all.1)
              ∙ ap (λ (m : ScriptLine). meanings (ended_lines prefix) ++ m ∷ meanings all.1)
              (long-meaning all.0 all.2 ∙ sym (long-meaning (unended prefix) (omega (arith, size))))
              ∙ sym (append_assoc (meanings (ended_lines prefix)) (meaning (unended prefix) ∷ []) (meanings all.1))
              ∙ ap (λ (ms : List ScriptLine). ms ++ meanings all.1)
              (sym (map-append meaning (ended_lines prefix) (unended prefix ∷ []))
              ∙ ap (λ (ls : List (List ℕ)). meanings (ended_lines prefix ++ ls)) (sym over.0)),
        )

snoc_last : {A : Type 0} (xs ys : List A) (x y : A) → xs ++ x ∷ [] ≡ ys ++ y ∷ [] → x ≡ y
snoc_last [] [] x y e = cc
snoc_last [] (b ∷ ys) x y e = absurd (let sizes = ap length e in omega (arith, sizes, length-append ys (y ∷ [])))
snoc_last (a ∷ xs) [] x y e = absurd (let sizes = ap length e in omega (arith, sizes, length-append xs (x ∷ [])))
snoc_last (a ∷ xs) (b ∷ ys) x y e = let tails : xs ++ x ∷ [] ≡ ys ++ y ∷ [] = cc in snoc_last xs ys x y tails

-- a last line that is accepted has ended if the input goes on
pub stop_ended : (playout : Playout) (prefix : List ℕ) → (at : IsAtLast playout (record { bytes = prefix; ended = false })) → at.last.line ≢ Rejected → length (ended_lines prefix) ≡ length at.before + 1
stop_ended playout prefix at accepted = by_size (nat_le 8194 (length (unended prefix))) refl
  where
    said : played_meanings at.before ++ at.last.line ∷ [] ≡ meanings (received prefix false)
    said = sym (map-append (λ (one : PlayedLine). one.line) at.before (at.last ∷ [])) ∙ at.said

    by_size : (b : Bool) → nat_le 8194 (length (unended prefix)) ≡ b → length (ended_lines prefix) ≡ length at.before + 1
    by_size false is =
        let same = ap length said in
        let one = length-append (played_meanings at.before) (at.last.line ∷ []) in
        let two = length-map at.before (λ (p : PlayedLine). p.line) in
        let three = length-map (received prefix false) meaning in
        let four = ap length (received-short prefix (short_by (unended prefix) is)) in
        omega (arith, same, one, two, three, four)
    by_size true is =
        let over = long_by (unended prefix) is in
        let size = over.1 in
        let last : at.last.line ≡ meaning (unended prefix) =
        snoc_last (played_meanings at.before) (meanings (ended_lines prefix)) at.last.line (meaning (unended prefix))
        (said ∙ ap (λ (ls : List (List ℕ)). meanings (ended_lines prefix ++ ls)) over.0 ∙ map-append meaning (ended_lines prefix) (unended prefix ∷ [])) in
        absurd (accepted (last ∙ long-meaning (unended prefix) (omega (arith, size))))

-- lines that were not played, as if there was memory for all
pub unplayed : List ScriptLine → List PlayedLine
unplayed [] = []
unplayed (line ∷ lines) = record { line = line; given_up = false; no_memory = false } ∷ unplayed lines

pub said-unplayed : (lines : List ScriptLine) → played_meanings (unplayed lines) ≡ lines
unfolding unplayed
said-unplayed [] = refl
said-unplayed (line ∷ lines) = ap (λ (ls : List ScriptLine). line ∷ ls) (said-unplayed lines)

-- the lines up to the last that was played, and those after it
pub said-later : (before : List PlayedLine) (last : PlayedLine) (rest : List ScriptLine) → played_meanings (before ++ last ∷ unplayed rest) ≡ played_meanings (before ++ last ∷ []) ++ rest
said-later before last rest =
    map-append (λ (one : PlayedLine). one.line) before (last ∷ unplayed rest)
    ∙ ap (λ (ls : List ScriptLine). played_meanings before ++ last.line ∷ ls) (said-unplayed rest)
    ∙ sym (append_assoc (played_meanings before) (last.line ∷ []) rest)
    ∙ ap (λ (ls : List ScriptLine). ls ++ rest) (sym (map-append (λ (one : PlayedLine). one.line) before (last ∷ [])))

end_true : (b more : Bool) → b ≡ true → cond b false more ≡ true → ⊥
end_true true more is on = false≢true on
end_true false more is on = false≢true is

goes_later : (b more : Bool) → cond b false more ≡ true → more ≡ true
goes_later true more on = absurd (false≢true on)
goes_later false more on = on

-- a rejected line after lines after which the run goes on is before the first stop
rejected_after : (playout : Playout) (before played : List PlayedLine) (rest : List ScriptLine) → goes_on_after playout before played ≡ true
    → list_all is_accepted (until_stop (played_meanings played ++ Rejected ∷ rest)) ≡ true → ⊥
unfolding goes_on_after
rejected_after playout before [] rest on accepted = false≢true accepted
rejected_after playout before (one ∷ played) rest on accepted =
    by_line one.line refl accepted (rejected_after playout (before ++ one ∷ []) played rest later)
  where
    later : goes_on_after playout (before ++ one ∷ []) played ≡ true
    later = goes_later (ends_at playout before one one.line) (goes_on_after playout (before ++ one ∷ []) played) on

    by_line : (line : ScriptLine) → one.line ≡ line → list_all is_accepted (until_stop (line ∷ (played_meanings played ++ Rejected ∷ rest))) ≡ true
        → (list_all is_accepted (until_stop (played_meanings played ++ Rejected ∷ rest)) ≡ true → ⊥) → ⊥
    by_line Comment is accepted next = next accepted
    by_line (script.Ticks count) is accepted next = next accepted
    by_line (Said tag text) is accepted next = next accepted
    by_line script.Stop is accepted next =
        end_true (ends_at playout before one one.line) (goes_on_after playout (before ++ one ∷ []) played) (ap (ends_at playout before one) is) on
    by_line Rejected is accepted next = false≢true accepted

pub rejected_line : (playout : Playout) (played : List PlayedLine) (rest : List ScriptLine) → goes_on playout played ≡ true
    → list_all is_accepted (until_stop (played_meanings played ++ Rejected ∷ rest)) ≡ true → ⊥
unfolding goes_on
rejected_line playout played rest on accepted = rejected_after playout [] played rest on accepted
