-- Reading a message from the front of its bytes.
use Rattle.std.specs.Prelude.{◌≡◌, ◌≢◌, ℕ, ◌+◌, ◌-◌, ◌*◌, ◌/◌, ◌==◌, ◌||◌, nat_lt, Bool, if◌then◌else◌, ℤ, List, [], ◌∷◌, length, take, drop, position, Option, Some, None, option_map, Result, Ok, Err}
use Rattle.std.specs.List.{list_any}
use Rattle.std.specs.Str.{chars, is_utf8}
use Rattle.std.specs.Int.{w32, cast_signed, from_be_bytes}
use Rattle.osc_status.specs.declared.arg.OscValue.{OscValue}
use Rattle.osc_status.specs.declared.arg.OscValue.TheVariants.{Int, Word}
use Rattle.osc_status.specs.declared.message.Message.{Message}
use Rattle.osc_status.specs.declared.message.OscFault.{OscFault}
use Rattle.osc_status.specs.declared.message.OscFault.TheVariants.{NoMessage, OutOfMemory}
use Rattle.osc_status.specs.Texts.{is_zero, is_other}
use Rattle.osc_status.specs.Message.{begins_with}

-- the next step with the value, if there is one
infixl 10 ◌>>=◌
abbrev pub ◌>>=◌ : {A B : Type 0} → Option A → (A → Option B) → Option B
None >>= f = None
(Some x) >>= f = f x

-- the length, with its padding, of a text of this many bytes
abbrev pub whole_len : ℕ → ℕ
whole_len len = len / 4 * 4 + 4

-- whether the padding after the first `len` bytes is cut short, or has a byte that is not zero
abbrev pub lacks_padding : List ℕ → ℕ → Bool
lacks_padding bytes len =
    nat_lt (length bytes) (whole_len len) || list_any is_other (take (whole_len len - len) (drop len bytes))

-- the bytes before the first zero, and the bytes after their padding
unfoldable pub padded_at : List ℕ → Option (List ℕ × List ℕ)
padded_at bytes = do
  len ← position is_zero bytes
  if lacks_padding bytes len then None else Some (take len bytes, drop (whole_len len) bytes)

-- the characters of the text at the front, and the bytes after its padding
unfoldable pub text_at : List ℕ → Option (List ℕ × List ℕ)
text_at bytes = do
  found ← padded_at bytes
  if is_utf8 found.0 then Some (chars found.0, found.1) else None

-- the number of the four bytes at the front, and the bytes after them
unfoldable pub number_at : List ℕ → Option (ℤ × List ℕ)
number_at bytes =
    if nat_lt (length bytes) 4 then None else Some (cast_signed w32 (from_be_bytes w32 (take 4 bytes)), drop 4 bytes)

abbrev pub number_value : ℤ × List ℕ → OscValue × List ℕ
number_value found = (Int found.0, found.1)

abbrev pub word_value : List ℕ × List ℕ → OscValue × List ℕ
word_value found = (Word found.0, found.1)

-- the argument of a kind at the front, and the bytes after it
unfoldable pub value_at : ℕ → List ℕ → Option (OscValue × List ℕ)
value_at kind bytes =
    if kind == 105 then option_map number_value (number_at bytes)
    else (if kind == 115 then option_map word_value (text_at bytes) else None)

-- the arguments of these kinds, if the bytes are these arguments and nothing follows
unfoldable pub values_at : List ℕ → List ℕ → Option (List OscValue)
values_at [] bytes = if length bytes == 0 then Some [] else None
values_at (kind ∷ kinds) bytes = do
  first ← value_at kind bytes
  others ← values_at kinds first.1
  Some (first.0 ∷ others)

-- the letters after the comma at the front
unfoldable pub kinds_of : List ℕ → Option (List ℕ)
kinds_of [] = None
kinds_of (c ∷ kinds) = if c == 44 then Some kinds else None

-- the address, which must begin with a slash, the kinds of the arguments, and the bytes of the arguments
unfoldable pub parts_at : List ℕ → Option (List ℕ × List ℕ × List ℕ)
parts_at bytes = if begins_with 47 bytes then (do
  address ← text_at bytes
  letters ← padded_at address.1
  kinds ← kinds_of letters.0
  Some (address.0, kinds, letters.1)) else None

-- the message whose bytes these are
unfoldable pub message_at : List ℕ → Option Message
message_at bytes = do
  parts ← parts_at bytes
  args ← values_at parts.1 parts.2
  Some (record { address = parts.0; args = args })

-- the message was read; or there is none; or there is one, and memory ran out
abbrev pub IsReadAs : Option Message → Result Message OscFault → Type 0
IsReadAs found (Ok message) = found ≡ Some message
IsReadAs found (Err NoMessage) = found ≡ None
IsReadAs found (Err OutOfMemory) = found ≢ None
