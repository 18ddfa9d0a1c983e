-- Tokens before commands: characters and bytes.
use Rattle.std.proofs.Common.{◌≡◌, ℕ, ◌<◌, true, List, [], ◌∷◌, refl, arith}
use Rattle.std.specs.Prelude.{Some}
use Rattle.std.specs.List.{list_all}
use Rattle.std.specs.Str.{IsUtf8, IsAscii, chars}
use Rattle.std.proofs.lemmas.Bool.{and_parts, leb-true}
use Rattle.std.proofs.lemmas.Option.{cond_some}
use Rattle.std.proofs.lemmas.Str.Ascii.{IsAscii-nil, IsAscii-cons}
use Rattle.amcp_text.specs.ReqTokens.{is_token, is_token_byte, token_of}
use Rattle.amcp_text.proofs.TextLaws.{both_read}

byte_is_ascii : (byte : ℕ) → is_token_byte byte ≡ true → byte < 128
byte_is_ascii byte h = omega (arith, leb-true byte 0x7e (and_parts _ _ (and_parts _ _ h).0).1)

bytes_are_ascii : (word : List ℕ) → list_all is_token_byte word ≡ true → IsAscii word
bytes_are_ascii [] h = IsAscii-nil
bytes_are_ascii (byte ∷ word) h =
    let parts = and_parts (is_token_byte byte) (list_all is_token_byte word) h in
    IsAscii-cons byte word (byte_is_ascii byte parts.0) (bytes_are_ascii word parts.1)

-- a token is ASCII
pub token_is_ascii : (word token : List ℕ) → token_of word ≡ Some token → IsAscii word
token_is_ascii word token h =
    bytes_are_ascii word ((and_parts _ _ (cond_some (is_token word) word token h).0).1)

-- a word is a token by its characters just if it is one by its bytes
pub token_of-chars : (word : List ℕ) → IsUtf8 word → token_of (chars word) ≡ token_of word
token_of-chars word utf8 = both_read token_of token_is_ascii word utf8 (token_of word) (token_of (chars word)) refl refl
