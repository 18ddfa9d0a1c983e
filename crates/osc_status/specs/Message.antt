-- Messages of OSC 1.0 whose arguments are numbers and words, and whose texts are UTF-8.
use Rattle.std.specs.Prelude.{◌≡◌, ℕ, ◌==◌, Bool, true, false, List, [], ◌∷◌, ◌++◌, map, flat_map, FitsSigned}
use Rattle.std.specs.List.{AllByRecursion}
use Rattle.std.specs.Int.{w32, cast_unsigned, to_be_bytes}
use Rattle.osc_status.specs.declared.arg.OscValue.{OscValue}
use Rattle.osc_status.specs.declared.arg.OscValue.TheVariants.{Int, Word}
use Rattle.osc_status.specs.declared.message.Message.{Message}
use Rattle.osc_status.specs.Texts.{IsText, padded, text_bytes}

-- the letter of an argument: i for a number, s for a word
abbrev pub letter : OscValue → ℕ
letter (Int number) = 105
letter (Word word) = 115

-- a comma, and a letter for each argument
abbrev pub letters : List OscValue → List ℕ
letters args = 44 ∷ map letter args

-- the bytes of an argument: a number as 32 bits in two's complement, the highest byte first, and a word as a text
abbrev pub value_bytes : OscValue → List ℕ
value_bytes (Int number) = to_be_bytes w32 (cast_unsigned w32 number)
value_bytes (Word word) = text_bytes word

-- the bytes of a message: its address, the letters, and its arguments
abbrev pub message_bytes : Message → List ℕ
message_bytes message =
    text_bytes message.address ++ (padded (letters message.args) ++ flat_map value_bytes message.args)

-- an argument that a message may have: a number of 32 bits, or a word
abbrev pub IsArg : OscValue → Type 0
IsArg (Int number) = FitsSigned w32 number
IsArg (Word word) = IsText word

-- whether a text begins with this byte or character
abbrev pub begins_with : ℕ → List ℕ → Bool
begins_with first [] = false
begins_with first (c ∷ rest) = c == first

-- the address is a text that begins with a slash, and each argument is one that a message may have
pub record IsMessage (message : Message) : Type 0 where
  pub address : IsText message.address
  pub slash : begins_with 47 message.address ≡ true
  pub args : AllByRecursion IsArg message.args

-- this is a message, and the bytes are its bytes
pub record IsMessageOf (bytes : List ℕ) (message : Message) : Type 0 where
  pub ranges : IsMessage message
  pub spelled : bytes ≡ message_bytes message
