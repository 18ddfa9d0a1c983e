-- Tokens, which REQ puts before commands.
use Rattle.std.specs.Prelude.{◌≡◌, ℕ, ◌-◌, ◌==◌, ◌&&◌, nat_le, nat_lt, not, Bool, true, if◌then◌else◌, Option, Some, None, List, ◌++◌, length, take, replicate}
use Rattle.std.specs.List.{list_all}
use Rattle.amcp_text.specs.declared.req_token.TheConstants.{MAX_TOKEN_BYTES}

-- a byte from 21 to 7E hexadecimal, but no quotation mark and no backslash
abbrev pub is_token_byte : ℕ → Bool
is_token_byte byte = (nat_le 0x21 byte && nat_le byte 0x7e) && (not (byte == 34) && not (byte == 92))

-- 1 to 64 such bytes
abbrev pub is_token : List ℕ → Bool
is_token word = (nat_lt 0 (length word) && nat_le (length word) MAX_TOKEN_BYTES) && list_all is_token_byte word

-- a word as a token, if it is one
abbrev pub token_of : List ℕ → Option (List ℕ)
token_of word = if is_token word then Some word else None

-- the first `len` bytes are a token, and zeros follow
pub record IsKept (bytes : List ℕ) (len : ℕ) : Type 0 where
  pub token : is_token (take len bytes) ≡ true
  pub count : length (take len bytes) ≡ len
  pub rest : bytes ≡ take len bytes ++ replicate (MAX_TOKEN_BYTES - len) 0
