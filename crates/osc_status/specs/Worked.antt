-- Words for the worked examples: messages that are short to write.
use Rattle.std.specs.Prelude.{ℕ, false, List, codes}
use Prim.Native.String.{String}
use Rattle.hex.specs.Hex.{encode_lower}
use Rattle.play_types.specs.declared.take.Spec.TheVariants.{Colour}
use Rattle.osc_status.specs.declared.arg.OscValue.{OscValue}
use Rattle.osc_status.specs.declared.layer.LayerStatus.{LayerStatus}
use Rattle.osc_status.specs.declared.message.Message.{Message}
use Rattle.osc_status.specs.Message.{message_bytes}

-- a message of these arguments to an address
abbrev pub message : String → List OscValue → Message
message address args = record { address = codes address; args = args }

-- the bytes of a message, in hexadecimal
abbrev pub hex : Message → List ℕ
hex message = encode_lower (message_bytes message)

-- a layer that plays the colour red
abbrev pub red : LayerStatus
red = record { channel = 1; layer = 0; spec = Colour 4294901760; frame = 0; length = 0; paused = false }
