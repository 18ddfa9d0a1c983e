-- Which lines of a client have a word.
use Rattle.std.specs.Prelude.{ℕ, ◌==◌, ◌||◌, ◌&&◌, Bool, not, if◌then◌else◌, List}
use Rattle.std.specs.List.{list_any, before_last, after_last}

-- the byte LF, which ends a line
abbrev pub is_line_end : ℕ → Bool
is_line_end byte = byte == 10

-- a byte of a word: neither an end of a line nor a space, a tab or CR
abbrev pub is_word_byte : ℕ → Bool
is_word_byte byte = not (byte == 10 || byte == 32 || byte == 9 || byte == 13)

-- whether `bytes` end a line that has a word: they have an LF, and the line so far has a word or one comes before their last LF
abbrev pub ends_word : Bool → List ℕ → Bool
ends_word has_word bytes = list_any is_line_end bytes && (has_word || list_any is_word_byte (before_last is_line_end bytes))

-- whether the line that is open after `bytes` has a word: after their last LF, or, without an LF, in the line so far or in `bytes`
abbrev pub leaves_word : Bool → List ℕ → Bool
leaves_word has_word bytes =
    if list_any is_line_end bytes then list_any is_word_byte (after_last is_line_end bytes) else (has_word || list_any is_word_byte bytes)
