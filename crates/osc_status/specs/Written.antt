-- The messages that are written.
use Rattle.std.specs.Prelude.{◌≡◌, ℕ, false, List, map}
use Rattle.std.specs.List.{list_any}
use Rattle.std.specs.Str.{chars}
use Rattle.osc_status.specs.declared.arg.OscArg.{OscArg}
use Rattle.osc_status.specs.declared.arg.OscArg.TheVariants as arg
use Rattle.osc_status.specs.declared.arg.OscValue.{OscValue}
use Rattle.osc_status.specs.declared.arg.OscValue.TheVariants as value
use Rattle.osc_status.specs.declared.message.Message.{Message}
use Rattle.osc_status.specs.Texts.{is_zero}

-- an argument, with the characters of its word
abbrev pub arg_value : OscArg → OscValue
arg_value (arg.Int number) = value.Int number
arg_value (arg.Word word) = value.Word (chars word.now)

-- no word has a zero character
abbrev pub HasNoZero : OscArg → Type 0
HasNoZero (arg.Int number) = Unit {0}
HasNoZero (arg.Word word) = list_any is_zero word.now ≡ false

-- the message of an address and of arguments
abbrev pub written_message : List ℕ → List OscArg → Message
written_message address args = record { address = chars address; args = map arg_value args }
