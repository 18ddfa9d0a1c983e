use Rattle.play_types.specs.Words.{name_text}
use Rattle.play_types.specs.Commands.{command_name}
use Rattle.history_model.specs.text.Commands.{Plain, arguments, command_text}
use Rattle.cmd_print.proofs.Texts.{fit_name, fit_arguments}
use Rattle.cmd_print.proofs.Tokens.{words_of-printed}
use Rattle.cmd_print.proofs.ReadsBack.{command_read}
use Rattle.cmd_print.proofs.Settings.{parsed_known}
use Rattle.cmd_print.proofs.laws.printed_commands_read_back.Goals as goal

pub returns-clause-words : goal.returns-clause-words
unfolding command_text
returns-clause-words c = λ media command.
    words_of-printed (Plain (name_text (command_name command))) (arguments media command) (fit_name (command_name command)) (fit_arguments media command)

pub returns-clause-meaning : goal.returns-clause-meaning
returns-clause-meaning c = λ config media words command kept names asked.
    command_read config media kept.parts.few_channels command (parsed_known config media words command names asked)
