-- Times of cue lines, as moments: the number of ticks before them.
use Rattle.std.specs.Prelude.{ℕ, ◌+◌, ◌*◌, ◌==◌, nat_le, nat_lt, ◌||◌, if◌then◌else◌, Option, Some, None, option_map, option_and_then, List, length}
use Rattle.std.specs.Option.{option_or}
use Rattle.amcp_text.specs.Numbers.{number_within}
use Rattle.history_model.specs.text.Parts.{parts_at}
use Rattle.play_schedule.specs.declared.limits.TheConstants.{MAX_MOMENT}

-- a moment, if it is not after the latest of a sheet
abbrev pub moment_within : ℕ → Option ℕ
moment_within moment = if nat_le moment MAX_MOMENT then Some moment else None

-- the number that two digits before a colon write, if it is at most `most`, and what follows the colon
abbrev pub two_digits : ℕ → List ℕ → Option (ℕ × List ℕ)
two_digits most text =
    option_and_then
    (λ (p : List ℕ × List ℕ).
    if length p.0 == 2 then option_map (λ (n : ℕ). (n, p.1)) (number_within 0 most p.0) else None)
    (parts_at 58 text)

-- the number of a frame that two or three digits write, if it is below `rate`
abbrev pub frame_number : ℕ → List ℕ → Option ℕ
frame_number rate text =
    if (length text == 2) || (length text == 3)
    then option_and_then (λ (frame : ℕ). if nat_lt frame rate then Some frame else None) (number_within 0 999 text)
    else None

-- the moment of `HH:MM:SS:FF`, with `rate` frames a second: minutes and seconds are below 60
abbrev pub timecode : ℕ → List ℕ → Option ℕ
timecode rate text =
    option_and_then
    (λ (hours : ℕ × List ℕ).
    option_and_then
    (λ (minutes : ℕ × List ℕ).
    option_and_then
    (λ (seconds : ℕ × List ℕ).
    option_and_then
    (λ (frame : ℕ). moment_within (((hours.0 * 60 + minutes.0) * 60 + seconds.0) * rate + frame))
    (frame_number rate seconds.1))
    (two_digits 59 minutes.1))
    (two_digits 59 hours.1))
    (two_digits 99 text)

-- the moment that a text writes: as a whole number, or as a timecode
abbrev pub moment_of : ℕ → List ℕ → Option ℕ
moment_of rate text = option_or (number_within 0 MAX_MOMENT text) (timecode rate text)
