-- What is unfolded to compute the lines of a script that are written out.
use Rattle.std.specs.Prelude.{⊤}
use Rattle.std.specs.Fmt.{digits}
use Rattle.std.specs.Str.{chars, is_utf8}
use lib.Utf8.{encode}
use Rattle.hex.specs.Hex.{encode_with}
use Rattle.play_types.specs.Words.{is_word, is_same_name, curve_of, kind_of, name_of, prop_of}
use Rattle.history_model.specs.commands.Command.{parsed, play}
use Rattle.history_model.specs.commands.Mixer.{mixer, numbers_of, timing_at}
use Rattle.history_model.specs.commands.Options.{options_at}
use Rattle.history_model.specs.commands.Places.{area_of}
use Rattle.history_model.specs.commands.Producer.{producer_of, take_at}
use Rattle.history_model.specs.commands.Recording.{add_file, remove_file}
use Rattle.history_model.specs.sessions.Line.{line_meaning}
use Rattle.history_model.specs.sessions.Request.{line_token}
use Rattle.history_model.specs.scripts.Output.{reply_line, tag_text, tagged_lines, tick_output, ticks_output}
use Rattle.history_model.specs.stage.Acts.{acts, is_refused}
use Rattle.history_model.specs.pictures.Frame.{frame_pixel}
use Rattle.history_model.specs.text.Frames.{frame_lines, head_line, row_lines, sound_line}
use Rattle.history_model.specs.text.Replies.{code_line}

-- what a text asks for
unfoldable pub text_on_literals : ⊤
unfolding line_meaning line_token parsed play mixer add_file remove_file take_at producer_of options_at numbers_of timing_at area_of is_word is_same_name kind_of curve_of name_of prop_of chars is_utf8 encode
text_on_literals = tt

-- what is written for a reply
unfoldable pub reply_on_literals : ⊤
unfolding tagged_lines reply_line tag_text code_line is_refused acts digits
reply_on_literals = tt

-- what is written for ticks
unfoldable pub ticks_on_literals : ⊤
unfolding ticks_output tick_output frame_lines head_line row_lines sound_line frame_pixel digits encode_with
ticks_on_literals = tt
