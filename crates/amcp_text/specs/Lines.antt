-- The lines of a stream of bytes.
use Rattle.std.specs.Prelude.{◌≡◌, ℕ, ◌-◌, ◌==◌, nat_lt, ◌⊎◌, Bool, if◌then◌else◌, List, [], ◌∷◌, ◌++◌, map, length, take}
use Rattle.std.specs.List.{slice_split}
use Rattle.std.specs.Str.{chars, is_utf8}
use Rattle.std.specs.Str.Lines.{strip_carriage_return}
use Rattle.amcp_text.specs.declared.line_reader.TheConstants.{MAX_LINE_BYTES}

-- a line: its characters, or that its text has more bytes than a line may have, or else is not UTF-8
pub data Line : Type 0 where
  Text : List ℕ → Line
  TooLong : Line
  NotUtf8 : Line

-- the byte LF, which ends a line
abbrev pub is_line_end : ℕ → Bool
is_line_end byte = byte == 10

-- the line of this text
abbrev pub line_of_text : List ℕ → Line
line_of_text text = if nat_lt MAX_LINE_BYTES (length text) then TooLong else (if is_utf8 text then Text (chars text) else NotUtf8)

-- the line with these bytes before its LF: one CR at their end belongs to the line's end
abbrev pub line_of : List ℕ → Line
line_of bytes = line_of_text (strip_carriage_return bytes)

-- the bytes before each line end, from the line end before it on: the part after the last line end is no line
abbrev pub ended_parts : List ℕ → List (List ℕ)
ended_parts stream = let parts = slice_split is_line_end stream in take (length parts - 1) parts

-- the lines of a stream
abbrev pub lines_of : List ℕ → List Line
lines_of stream = map line_of (ended_parts stream)

-- the stream ends where a line ends: it is empty, or its last byte is LF
abbrev pub IsEnded : List ℕ → Type 0
IsEnded stream = (stream ≡ []) ⊎ ((prefix : List ℕ) × (stream ≡ prefix ++ 10 ∷ []))
