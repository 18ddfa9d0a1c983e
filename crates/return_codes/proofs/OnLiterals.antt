-- What is unfolded to compute the lines of a reply that is written out.
use Rattle.std.specs.Prelude.{⊤}
use Rattle.std.specs.Char.{encode_utf8}
use Rattle.std.specs.Fmt.{digits}
use Rattle.amcp_text.specs.Micros.{last_digits}
use Rattle.amcp_text.specs.Escapes.{quoted}
use Rattle.history_model.specs.text.Replies.{channel_line, code_line, ended, media_line, numbers_text, reply_bytes, size_text, values_line}

unfoldable pub replies_on_literals : ⊤
unfolding encode_utf8 digits last_digits channel_line code_line ended media_line numbers_text quoted reply_bytes size_text values_line
replies_on_literals = tt
