-- The bytes that a line reader represents, and the lines that it returns.
use Rattle.std.specs.Prelude.{◌≡◌, ℕ, ◌+◌, nat_lt, min, Bool, ◌||◌, if◌then◌else◌, Option, Some, None, List, [], ◌∷◌, ◌++◌, length, take}
use Rattle.std.specs.List.{before_first, after_first, position_or_len, list_any}
use Rattle.std.specs.Str.{chars}
use Rattle.amcp_text.specs.Lines.{Line, Text, TooLong, NotUtf8, is_line_end, line_of, lines_of}
use Rattle.amcp_text.specs.ReaderState.{ReaderState}
use Rattle.amcp_text.specs.declared.line_reader.TheConstants.{MAX_LINE_BYTES}
use Rattle.amcp_text.specs.declared.line_reader.LineEvent.{LineEvent}
use Rattle.amcp_text.specs.declared.line_reader.LineEvent.TheVariants as event

-- the reader represents these bytes, which it took since it dropped the line before
pub record Represents (reader : ReaderState) (bytes : List ℕ) : Type 0 where
  -- nothing follows a line end
  pub one_line : after_first is_line_end bytes ≡ []
  pub kept : reader.kept ≡ take (MAX_LINE_BYTES + 1) (before_first is_line_end bytes)
  pub over : reader.over ≡ nat_lt (MAX_LINE_BYTES + 1) (length (before_first is_line_end bytes))
  pub held : reader.held ≡ list_any is_line_end bytes

-- how many bytes of a piece are taken: none if a line is held, else those up to and with the first line end
abbrev pub taken_len : Bool → List ℕ → ℕ
taken_len held piece = if held then 0 else min (position_or_len is_line_end piece + 1) (length piece)

-- the line of an event
abbrev pub line_view : LineEvent → Line
line_view (event.Line text) = Text (chars text.now)
line_view event.TooLong = TooLong
line_view event.NotUtf8 = NotUtf8

-- what a reader returns for the bytes that it represents: no line, or their line, which comes first whatever bytes follow
abbrev pub IsLineOf : Option LineEvent → List ℕ → Type 0
IsLineOf None bytes = lines_of bytes ≡ []
IsLineOf (Some event) bytes = (rest : List ℕ) → lines_of (bytes ++ rest) ≡ line_view event ∷ lines_of rest

-- the reader after more of a line's text came: as much is kept as there is room for
abbrev pub with_text : ReaderState → List ℕ → ReaderState
with_text reader text = record {
  kept = take (MAX_LINE_BYTES + 1) (reader.kept ++ text);
  over = reader.over || nat_lt (MAX_LINE_BYTES + 1) (length (reader.kept ++ text));
  held = reader.held;
}

-- the line that is kept, once its end has come
abbrev pub line_kept : ReaderState → Line
line_kept reader = if reader.over then TooLong else line_of reader.kept

-- a reader that took `taken` has returned `lines` and represents `bytes`: whatever follows, the lines of the stream are `lines`
-- and then those from `bytes` on
pub record HasTold (taken : List ℕ) (lines : List Line) (bytes : List ℕ) : Type 0 where
  pub first : (rest : List ℕ) → lines_of (taken ++ rest) ≡ lines ++ lines_of (bytes ++ rest)
