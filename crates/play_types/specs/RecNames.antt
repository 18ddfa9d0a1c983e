-- Names of recordings.
use Rattle.std.specs.Prelude.{◌≡◌, ℕ, ◌-◌, ◌==◌, ◌&&◌, ◌||◌, nat_le, nat_lt, Bool, if◌then◌else◌, Option, Some, None, List, ◌++◌, length, map, take, replicate}
use Rattle.std.specs.List.{list_all}
use Rattle.std.specs.Char.{is_ascii_alphanumeric, to_ascii_uppercase}
use Rattle.play_types.specs.declared.rec_name.TheConstants.{MAX_REC_NAME_BYTES}

-- an ASCII letter in either case, a digit, an underscore or a dash
abbrev pub is_rec_char : ℕ → Bool
is_rec_char c = is_ascii_alphanumeric c || (c == 95 || c == 45)

-- 1 to 32 such characters
abbrev pub is_rec_word : List ℕ → Bool
is_rec_word word = (nat_lt 0 (length word) && nat_le (length word) MAX_REC_NAME_BYTES) && list_all is_rec_char word

-- the name that a word is, in capitals, or none if it is not a name
abbrev pub rec_name_of : List ℕ → Option (List ℕ)
rec_name_of word = if is_rec_word word then Some (map to_ascii_uppercase word) else None

-- the first `len` bytes are a name in capitals, and zeros follow
pub record IsKept (bytes : List ℕ) (len : ℕ) : Type 0 where
  pub name : rec_name_of (take len bytes) ≡ Some (take len bytes)
  pub count : length (take len bytes) ≡ len
  pub rest : bytes ≡ take len bytes ++ replicate (MAX_REC_NAME_BYTES - len) 0
