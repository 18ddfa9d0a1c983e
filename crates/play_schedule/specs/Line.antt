-- Single lines of a sheet. Words are separated by one space.
use Rattle.std.specs.Prelude.{ℕ, ◌==◌, nat_lt, if◌then◌else◌, Option, Some, None, option_map, option_and_then, unwrap_or, List, [], ◌∷◌, length, codes, bytes_eq}
use Rattle.std.specs.Option.{option_or}
use Rattle.play_types.specs.declared.event.Tag.{Tag}
use Rattle.amcp_text.specs.Numbers.{number_within}
use Rattle.history_model.specs.declared.limits.TheConstants.{MAX_SCRIPT_LINE_BYTES}
use Rattle.history_model.specs.scripts.Line.{addressed_parts, tag_of}
use Rattle.history_model.specs.text.Parts.{parts_at}
use Rattle.play_schedule.specs.declared.limits.TheConstants.{MAX_LINE_COPIES, MAX_MOMENT}
use Rattle.play_schedule.specs.declared.cue.Copies.{Copies}
use Rattle.play_schedule.specs.declared.cue.Start.{Start}
use Rattle.play_schedule.specs.declared.cue.Start.TheVariants.{At, After}
use Rattle.play_schedule.specs.Time.{moment_of}

-- the contents of a cue line: when its first copy is due, its copies, and a connection with the text that it sends
pub record CueLine : Type 0 where
  pub start : Start
  pub copies : Copies
  pub tag : Tag
  pub text : List ℕ

-- the contents of a line of a sheet
pub data SheetLine : Type 0 where
  -- an empty line or a comment
  Comment : SheetLine
  -- a text that is due
  Cue : CueLine → SheetLine
  -- the number of ticks of the sheet
  End : ℕ → SheetLine
  -- a line that no sheet may have
  Malformed : SheetLine

-- what follows this word and a space, if a text begins with them
abbrev pub after_word : List ℕ → List ℕ → Option (List ℕ)
after_word word text =
    option_and_then (λ (p : List ℕ × List ℕ). if bytes_eq p.0 word then Some p.1 else None) (parts_at 32 text)

-- the number from `least` to `most` that the first word of a text writes, and what follows it
abbrev pub number_word : ℕ → ℕ → List ℕ → Option (ℕ × List ℕ)
number_word least most text =
    option_and_then
    (λ (p : List ℕ × List ℕ). option_map (λ (n : ℕ). (n, p.1)) (number_within least most p.0))
    (parts_at 32 text)

-- the moment that the first word of a text writes, and what follows it
abbrev pub moment_word : ℕ → List ℕ → Option (ℕ × List ℕ)
moment_word rate text =
    option_and_then
    (λ (p : List ℕ × List ℕ). option_map (λ (n : ℕ). (n, p.1)) (moment_of rate p.0))
    (parts_at 32 text)

-- one copy
abbrev pub once : Copies
once = record { count = 1; interval = 0 }

-- `EVERY n TIMES k`, and what follows
abbrev pub repeated : List ℕ → Option (Copies × List ℕ)
repeated text =
    option_and_then
    (λ (after_every : List ℕ).
    option_and_then
    (λ (interval : ℕ × List ℕ).
    option_and_then
    (λ (after_times : List ℕ).
    option_map
    (λ (count : ℕ × List ℕ). (record { count = count.0; interval = interval.0 }, count.1))
    (number_word 1 MAX_LINE_COPIES after_times))
    (after_word (codes "TIMES") interval.1))
    (number_word 0 MAX_MOMENT after_every))
    (after_word (codes "EVERY") text)

-- the copies that a text asks for, and what follows: without `EVERY n TIMES k` there is one
abbrev pub copies_of : List ℕ → Copies × List ℕ
copies_of text = unwrap_or (repeated text) (once, text)

-- `w.s text`: a connection and the text that it sends
abbrev pub said_of : List ℕ → Option (Tag × List ℕ)
said_of text =
    option_and_then
    (λ (p : List ℕ × (List ℕ × List ℕ)). option_map (λ (tag : Tag). (tag, p.1.1)) (tag_of p.0 p.1.0))
    (addressed_parts text)

-- the cue line with this start and these copies, which ends with `w.s text`
abbrev pub cue_line : Start → Copies × List ℕ → Option SheetLine
cue_line start copies =
    option_map
    (λ (said : Tag × List ℕ). Cue (record { start = start; copies = copies.0; tag = said.0; text = said.1 }))
    (said_of copies.1)

-- `AT time w.s text`, or `AT time EVERY n TIMES k w.s text`
abbrev pub at_line : ℕ → List ℕ → Option SheetLine
at_line rate line =
    option_and_then
    (λ (rest : List ℕ).
    option_and_then (λ (time : ℕ × List ℕ). cue_line (At time.0) (copies_of time.1)) (moment_word rate rest))
    (after_word (codes "AT") line)

-- `AFTER n w.s text`
abbrev pub after_line : List ℕ → Option SheetLine
after_line line =
    option_and_then
    (λ (rest : List ℕ).
    option_and_then (λ (ticks : ℕ × List ℕ). cue_line (After ticks.0) (once, ticks.1)) (number_word 0 MAX_MOMENT rest))
    (after_word (codes "AFTER") line)

-- `END time`
abbrev pub end_line : ℕ → List ℕ → Option SheetLine
end_line rate line =
    option_and_then
    (λ (rest : List ℕ). option_map (λ (moment : ℕ). End moment) (moment_of rate rest))
    (after_word (codes "END") line)

-- the contents of a line of one of the three forms
abbrev pub form_of : ℕ → List ℕ → Option SheetLine
form_of rate line = option_or (at_line rate line) (option_or (after_line line) (end_line rate line))

-- the contents of a line that is not too long: a comment if it is empty or begins with #
abbrev pub short_line : ℕ → List ℕ → SheetLine
short_line rate [] = Comment
short_line rate (c ∷ more) = if c == 35 then Comment else unwrap_or (form_of rate (c ∷ more)) Malformed

-- the contents of a line, with `rate` frames a second: a line that is too long is malformed
abbrev pub line_of : ℕ → List ℕ → SheetLine
line_of rate line = if nat_lt MAX_SCRIPT_LINE_BYTES (length line) then Malformed else short_line rate line
