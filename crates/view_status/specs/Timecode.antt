-- Times as timecodes.
use Rattle.std.specs.Prelude.{ℕ, ◌/◌, ◌%◌, nat_lt, if◌then◌else◌, List, ◌∷◌, ◌++◌, decimal}

-- a number in digits, at least two
abbrev pub two_digits : ℕ → List ℕ
two_digits n = if nat_lt n 10 then 48 ∷ decimal n else decimal n

-- the time of a number of frames, of which a second has `rate`: hours, minutes, seconds and frames, with colons between them
unfoldable pub timecode_text : ℕ → ℕ → List ℕ
timecode_text rate frames =
    let seconds = frames / rate in
    two_digits (seconds / 3600) ++ (58 ∷ (two_digits (seconds / 60 % 60)
    ++ (58 ∷ (two_digits (seconds % 60) ++ (58 ∷ two_digits (frames % rate))))))
