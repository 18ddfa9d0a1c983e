-- What is unfolded to compute a document that is written out.
use Rattle.std.specs.Prelude.{⊤}
use Rattle.std.specs.Char.{encode_utf8}
use Rattle.std.specs.Fmt.{digits}
use Rattle.std.specs.Str.{chars, is_utf8}
use Rattle.std.specs.Str.Lossy.{utf8_lossy, utf8_valid_len}
use Rattle.json.specs.Print.{escape_byte, print_from}
use Rattle.history_model.specs.scripts.Output.{tag_text}
use Rattle.history_model.specs.stage.Acts.{acts}
use Rattle.history_model.specs.stage.Value.{value}
use Rattle.history_model.specs.text.Commands.{command_text}
use Rattle.history_model.specs.text.History.{connection_line, history_text, stop_line, tick_lines}
use Rattle.view_status.specs.Events.{event_tokens, events_tokens}
use Rattle.view_status.specs.Status.{channel_tokens, layer_tokens, source_tokens}
use Rattle.view_status.specs.Timecode.{timecode_text}

unfoldable pub documents_on_literals : ⊤
unfolding encode_utf8 digits chars is_utf8 utf8_lossy utf8_valid_len escape_byte print_from tag_text acts value command_text connection_line history_text stop_line tick_lines event_tokens events_tokens channel_tokens layer_tokens source_tokens timecode_text
documents_on_literals = tt
