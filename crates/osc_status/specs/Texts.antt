-- Texts in a message: their bytes, a zero byte, and zero bytes up to a multiple of four.
use Rattle.std.specs.Prelude.{◌≡◌, ℕ, ◌-◌, ◌%◌, ◌==◌, Bool, true, false, not, List, ◌++◌, length, replicate, filter, encode_utf8_all}
use Rattle.std.specs.List.{list_any}
use Rattle.std.specs.Str.{all_scalars}

-- whether a byte or a character is zero
abbrev pub is_zero : ℕ → Bool
is_zero byte = byte == 0

-- whether a byte or a character is not zero
abbrev pub is_other : ℕ → Bool
is_other byte = not (byte == 0)

-- the bytes or characters that are not zero
abbrev pub without_zeros : List ℕ → List ℕ
without_zeros bytes = filter is_other bytes

-- bytes with one to four zero bytes at their end, up to a multiple of four
abbrev pub padded : List ℕ → List ℕ
padded bytes = bytes ++ replicate (4 - length bytes % 4) 0

-- the bytes of a text of these characters: UTF-8, and its padding
abbrev pub text_bytes : List ℕ → List ℕ
text_bytes text = padded (encode_utf8_all text)

-- each character is a Unicode scalar value, and none is zero
pub record IsText (text : List ℕ) : Type 0 where
  pub scalars : all_scalars text ≡ true
  pub whole : list_any is_zero text ≡ false
