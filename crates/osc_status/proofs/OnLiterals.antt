-- What is unfolded to compute the bytes of a message that is written out.
use Rattle.std.specs.Prelude.{⊤}
use Rattle.std.specs.Char.{encode_utf8}
use Rattle.std.specs.Fmt.{digits}
use Rattle.hex.specs.Hex.{encode_with}

unfoldable pub messages_on_literals : ⊤
unfolding encode_utf8 digits encode_with
messages_on_literals = tt
