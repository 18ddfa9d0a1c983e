-- No text of a connection in the lines of an input has a line end.
use Rattle.std.proofs.Common.{◌≡◌, ℕ, zero, suc, ◌+◌, ◌-◌, eqb, ◌==◌, Bool, true, false, cond, List, [], ◌∷◌, ◌++◌, drop, take, length, map, refl, sym, ap, ◌∙◌, subst}
use Rattle.std.specs.Prelude.{Option, Some, None, nat_le, nat_lt, position, slice_index, if◌then◌else◌}
use Rattle.std.specs.Option.{option_map, option_and_then}
use Rattle.std.specs.List.{list_any, onto_first}
use Rattle.std.specs.Str.Lines.{lines, lines_of_parts, strip_carriage_return}
use Rattle.std.proofs.lemmas.Bool.{or_parts, or_from}
use Rattle.amcp_text.specs.Lines.{is_line_end}
use Rattle.play_types.specs.declared.event.Tag.{Tag}
use Rattle.amcp_text.specs.Numbers.{number_within}
use Rattle.history_model.specs.text.Parts.{parts_at}
use Rattle.history_model.specs.declared.limits.TheConstants.{MAX_SCRIPT_LINE_BYTES, MAX_TICKS_PER_LINE}
use Rattle.history_model.specs.scripts.Input.{ended_lines, ended_parts, last_part, overlong, parts, received, unended}
use Rattle.history_model.specs.scripts.Memory.{AreLines, IsOneLine, input_lines}
use Rattle.history_model.specs.scripts.Line.{ScriptLine, Comment, Ticks, Said, Stop, Rejected, until_stop, addressed_parts, tag_of, said_by, said_line, ticks_line, after_t, after_x, short_meaning, meaning}

-- there is no line end in the text
abbrev pub HasNoLineEnd : List ℕ → Type 0
HasNoLineEnd text = list_any is_line_end text ≡ false

take_one_line : (n : ℕ) (text : List ℕ) → HasNoLineEnd text → HasNoLineEnd (take n text)
take_one_line zero text none = refl
take_one_line (suc n) [] none = refl
take_one_line (suc n) (c ∷ text) none =
    let parts = or_parts (is_line_end c) (list_any is_line_end text) none in
    or_from (is_line_end c) (list_any is_line_end (take n text)) parts.0 (take_one_line n text parts.1)

drop_one_line : (n : ℕ) (text : List ℕ) → HasNoLineEnd text → HasNoLineEnd (drop n text)
drop_one_line zero text none = none
drop_one_line (suc n) [] none = refl
drop_one_line (suc n) (c ∷ text) none = drop_one_line n text (or_parts (is_line_end c) (list_any is_line_end text) none).1

-- a line without its carriage return has no line end either
pub stripped_one_line : (line text : List ℕ) → line ≡ strip_carriage_return text → HasNoLineEnd text → HasNoLineEnd line
stripped_one_line line text is none = ap (list_any is_line_end) is ∙ by_end (slice_index text (length text - 1) == 13)
  where
    by_end : (b : Bool) → HasNoLineEnd (cond b (take (length text - 1) text) text)
    by_end true = take_one_line (length text - 1) text none
    by_end false = none

-- the text of a connection's line has no line end if the line has none
abbrev HaveNoLineEnd : Option (List ℕ × List ℕ) → Type 0
HaveNoLineEnd None = Unit {0}
HaveNoLineEnd (Some parts) = HasNoLineEnd parts.1

parts_one_line : (byte : ℕ) (text : List ℕ) → HasNoLineEnd text → HaveNoLineEnd (parts_at byte text)
parts_one_line byte text none = by_place (position (λ c. c == byte) text)
  where
    by_place : (found : Option ℕ) → HaveNoLineEnd (option_map (λ at. (take at text, drop (at + 1) text)) found)
    by_place None = tt
    by_place (Some at) = drop_one_line (at + 1) text none

said_one_line : (text : List ℕ) (tag : Option Tag) → HasNoLineEnd text → IsOneLine (said_by text tag)
said_one_line text None none = tt
said_one_line text (Some tag) none = none

addressed_one_line : (line : List ℕ) → HasNoLineEnd line → IsOneLine (said_line (addressed_parts line))
addressed_one_line line none = by_worker (parts_at 46 line) (parts_one_line 46 line none)
  where
    by_session : (worker : List ℕ) (found : Option (List ℕ × List ℕ)) → HaveNoLineEnd found → IsOneLine (said_line (option_map (λ (q : List ℕ × List ℕ). (worker, q)) found))
    by_session worker None has = tt
    by_session worker (Some parts) has = said_one_line parts.1 (tag_of worker parts.0) has

    by_worker : (found : Option (List ℕ × List ℕ)) → HaveNoLineEnd found
        → IsOneLine (said_line (option_and_then (λ (p : List ℕ × List ℕ). option_map (λ (q : List ℕ × List ℕ). (p.0, q)) (parts_at 32 p.1)) found))
    by_worker None has = tt
    by_worker (Some parts) has = by_session parts.0 (parts_at 32 parts.1) (parts_one_line 32 parts.1 has)

ticks_one_line : (count : Option ℕ) → IsOneLine (ticks_line count)
ticks_one_line None = tt
ticks_one_line (Some count) = tt

t_one_line : (more : List ℕ) → IsOneLine (after_t more)
t_one_line [] = tt
t_one_line (c ∷ digits) = by_blank (c == 32)
  where
    by_blank : (b : Bool) → IsOneLine (if b then ticks_line (number_within 1 MAX_TICKS_PER_LINE digits) else Rejected)
    by_blank true = ticks_one_line (number_within 1 MAX_TICKS_PER_LINE digits)
    by_blank false = tt

x_one_line : (more : List ℕ) → IsOneLine (after_x more)
x_one_line [] = tt
x_one_line (c ∷ more) = tt

short_one_line : (line : List ℕ) → HasNoLineEnd line → IsOneLine (short_meaning line)
short_one_line [] none = tt
short_one_line (c ∷ more) none = by_first (c == 35) (c == 84) (c == 88)
  where
    by_first : (comment ticks stop : Bool) → IsOneLine
        (if comment then Comment else if ticks then after_t more else if stop then after_x more else said_line (addressed_parts (c ∷ more)))
    by_first true ticks stop = tt
    by_first false true stop = t_one_line more
    by_first false false true = x_one_line more
    by_first false false false = addressed_one_line (c ∷ more) none

pub meaning_one_line : (line : List ℕ) → HasNoLineEnd line → IsOneLine (meaning line)
meaning_one_line line none = by_length (nat_lt MAX_SCRIPT_LINE_BYTES (length line))
  where
    by_length : (b : Bool) → IsOneLine (if b then Rejected else short_meaning line)
    by_length true = tt
    by_length false = short_one_line line none

pub text_one_line : (line : List ℕ) (tag : Tag) (text : List ℕ) → Said tag text ≡ meaning line → HasNoLineEnd line → HasNoLineEnd text
text_one_line line tag text is none = subst IsOneLine (sym is) (meaning_one_line line none)

-- the parts of an input have no line ends
abbrev pub AreWithoutLineEnds : List (List ℕ) → Type 0
AreWithoutLineEnds [] = Unit {0}
AreWithoutLineEnds (text ∷ texts) = HasNoLineEnd text × AreWithoutLineEnds texts

onto_without : (c : ℕ) (texts : List (List ℕ)) → is_line_end c ≡ false → AreWithoutLineEnds texts → AreWithoutLineEnds (onto_first c texts)
onto_without c [] other none = (or_from (is_line_end c) false other refl, tt)
onto_without c (text ∷ texts) other none = (or_from (is_line_end c) (list_any is_line_end text) other none.0, none.1)

parts_without : (bytes : List ℕ) → AreWithoutLineEnds (parts bytes)
parts_without [] = (refl, tt)
parts_without (c ∷ bytes) = by_end (eqb c 10) refl (parts_without bytes)
  where
    by_end : (b : Bool) → eqb c 10 ≡ b → AreWithoutLineEnds (parts bytes) → AreWithoutLineEnds (cond b ([] ∷ parts bytes) (onto_first c (parts bytes)))
    by_end true is rest = (refl, rest)
    by_end false is rest = onto_without c (parts bytes) is rest

ended_without : (texts : List (List ℕ)) → AreWithoutLineEnds texts → AreWithoutLineEnds (ended_parts texts)
ended_without [] none = tt
ended_without (text ∷ []) none = tt
ended_without (text ∷ next ∷ more) none = (stripped_one_line _ text refl none.0, ended_without (next ∷ more) none.1)

last_without : (texts : List (List ℕ)) → AreWithoutLineEnds texts → HasNoLineEnd (last_part texts)
last_without [] none = refl
last_without (text ∷ []) none = none.0
last_without (text ∷ next ∷ more) none = last_without (next ∷ more) none.1

lines_without : (texts : List (List ℕ)) → AreWithoutLineEnds texts → AreWithoutLineEnds (lines_of_parts texts)
lines_without [] none = tt
lines_without (text ∷ []) none = by_length (length text == 0)
  where
    by_length : (b : Bool) → AreWithoutLineEnds (if b then [] else text ∷ [])
    by_length true = tt
    by_length false = none
lines_without (text ∷ next ∷ more) none = (stripped_one_line _ text refl none.0, lines_without (next ∷ more) none.1)

overlong_without : (text : List ℕ) → HasNoLineEnd text → AreWithoutLineEnds (overlong text)
overlong_without text none = by_length (nat_le (MAX_SCRIPT_LINE_BYTES + 2) (length text))
  where
    by_length : (b : Bool) → AreWithoutLineEnds (if b then text ∷ [] else [])
    by_length true = (none, tt)
    by_length false = tt

both_without : (front back : List (List ℕ)) → AreWithoutLineEnds front → AreWithoutLineEnds back → AreWithoutLineEnds (front ++ back)
both_without [] back none last = last
both_without (text ∷ front) back none last = (none.0, both_without front back none.1 last)

received_without : (bytes : List ℕ) (ended : Bool) → AreWithoutLineEnds (received bytes ended)
unfolding ended_lines unended
received_without bytes true = lines_without (parts bytes) (parts_without bytes)
received_without bytes false =
    both_without (ended_parts (parts bytes)) (overlong (last_part (parts bytes))) (ended_without (parts bytes) (parts_without bytes))
    (overlong_without (last_part (parts bytes)) (last_without (parts bytes) (parts_without bytes)))

-- the texts of connections in these lines have no line ends
pub said_lines : (texts : List (List ℕ)) → AreWithoutLineEnds texts → AreLines (map meaning texts)
said_lines [] none = tt
said_lines (text ∷ texts) none = (meaning_one_line text none.0, said_lines texts none.1)

pub AreLines-input : (bytes : List ℕ) (ended : Bool) → AreLines (input_lines bytes ended)
AreLines-input bytes ended = said_lines (received bytes ended) (received_without bytes ended)

-- nor have those of the lines up to the first stop, or of a part of the lines
pub AreLines-until_stop : (lines : List ScriptLine) → AreLines lines → AreLines (until_stop lines)
AreLines-until_stop [] whole = tt
AreLines-until_stop (Comment ∷ lines) whole = (tt, AreLines-until_stop lines whole.1)
AreLines-until_stop (Ticks count ∷ lines) whole = (tt, AreLines-until_stop lines whole.1)
AreLines-until_stop (Said tag text ∷ lines) whole = (whole.0, AreLines-until_stop lines whole.1)
AreLines-until_stop (Stop ∷ lines) whole = (tt, tt)
AreLines-until_stop (Rejected ∷ lines) whole = (tt, AreLines-until_stop lines whole.1)

pub AreLines-first : (lines later : List ScriptLine) → AreLines (lines ++ later) → AreLines lines
AreLines-first [] later whole = tt
AreLines-first (line ∷ lines) later whole = (whole.0, AreLines-first lines later whole.1)

pub AreLines-last : (lines later : List ScriptLine) → AreLines (lines ++ later) → AreLines later
AreLines-last [] later whole = whole
AreLines-last (line ∷ lines) later whole = AreLines-last lines later whole.1
