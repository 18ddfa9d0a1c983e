-- What is wrong with a faulty line of a sheet, as far as the line alone shows.
use Rattle.std.specs.Prelude.{ℕ, nat_lt, is_some, is_none, ◌&&◌, if◌then◌else◌, Bool, false, Option, Some, None, option_and_then, unwrap_or, List, [], ◌∷◌, length, codes}
use Rattle.std.specs.Option.{option_map_or}
use Rattle.amcp_text.specs.Numbers.{are_digits, number_within}
use Rattle.history_model.specs.declared.limits.TheConstants.{MAX_SCRIPT_LINE_BYTES}
use Rattle.history_model.specs.text.Parts.{parts_at}
use Rattle.play_schedule.specs.declared.limits.TheConstants.{MAX_MOMENT}
use Rattle.play_schedule.specs.declared.line_fault.LineFault.{LineFault}
use Rattle.play_schedule.specs.declared.line_fault.LineFault.TheVariants.{TooLong, Beginning, Time, Frame, LateTime, Ticks, Copies, Connection, CuePlace, EndPlace}
use Rattle.play_schedule.specs.Line.{SheetLine, Comment, Cue, End, Malformed, after_word, line_of, repeated}
use Rattle.play_schedule.specs.Time.{frame_number, moment_of, two_digits}

-- the bytes before the first space of a text and those after it: the whole text and nothing if there is no space
abbrev pub first_word : List ℕ → List ℕ × List ℕ
first_word text = unwrap_or (parts_at 32 text) (text, [])

-- whether a text is a whole number of any size
abbrev pub is_whole : List ℕ → Bool
is_whole [] = false
is_whole (c ∷ cs) = are_digits (c ∷ cs)

-- the frame of `HH:MM:SS:FF`, at any rate
abbrev pub frame_of : List ℕ → Option ℕ
frame_of text =
    option_and_then
    (λ (hours : ℕ × List ℕ).
    option_and_then
    (λ (minutes : ℕ × List ℕ).
    option_and_then (λ (seconds : ℕ × List ℕ). frame_number 1000 seconds.1) (two_digits 59 minutes.1))
    (two_digits 59 hours.1))
    (two_digits 99 text)

-- why a text is no moment: its time is too late, its frame is not below the rate, or it is no time at all
abbrev pub time_fault : ℕ → List ℕ → LineFault
time_fault rate text =
    option_map_or
    (λ (frame : ℕ). if nat_lt frame rate then LateTime else Frame)
    (frame_of text)
    (if is_whole text then LateTime else Time)

-- what is wrong after the time of a line that begins with AT: the copies, or the connection
abbrev pub text_fault : List ℕ → LineFault
text_fault text =
    if is_some (after_word (codes "EVERY") text) && is_none (repeated text) then Copies else Connection

-- what is wrong after AT: the time, or what follows it
abbrev pub at_fault : ℕ → List ℕ → LineFault
at_fault rate text =
    if is_some (moment_of rate (first_word text).0) then text_fault (first_word text).1 else time_fault rate (first_word text).0

-- what is wrong after AFTER: the number of ticks, or the connection
abbrev pub after_fault : List ℕ → LineFault
after_fault text = if is_some (number_within 0 MAX_MOMENT (first_word text).0) then Connection else Ticks

-- what is wrong with a line that has none of the three forms, by its first word
abbrev pub form_fault : ℕ → List ℕ → LineFault
form_fault rate line =
    option_map_or
    (at_fault rate)
    (after_word (codes "AT") line)
    (option_map_or after_fault (after_word (codes "AFTER") line) (option_map_or (time_fault rate) (after_word (codes "END") line) Beginning))

-- what is wrong with a line that is faulty in its sheet, by its contents: a comment is never faulty
abbrev pub fault_of_said : ℕ → List ℕ → SheetLine → Option LineFault
fault_of_said rate line Comment = None
fault_of_said rate line (Cue cue) = Some CuePlace
fault_of_said rate line (End moment) = Some EndPlace
fault_of_said rate line Malformed = Some (form_fault rate line)

-- what is wrong with a line that is faulty in its sheet, with `rate` frames a second
abbrev pub fault_of_line : ℕ → List ℕ → Option LineFault
fault_of_line rate line =
    if nat_lt MAX_SCRIPT_LINE_BYTES (length line) then Some TooLong else fault_of_said rate line (line_of rate line)
