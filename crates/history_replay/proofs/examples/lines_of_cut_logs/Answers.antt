use Rattle.std.proofs.Common.{refl}
use Rattle.std.specs.Fmt.{digits}
use lib.Utf8.{encode}
use Rattle.history_model.specs.scripts.Output.{tag_text}
use Rattle.history_model.specs.text.Commands.{command_text}
use Rattle.history_model.specs.text.History.{connection_line, history_text, tick_lines}
use Rattle.history_replay.proofs.examples.lines_of_cut_logs.Goals as goal

pub returns-clause-whole : goal.returns-clause-whole
unfolding history_text tick_lines connection_line tag_text command_text digits encode
returns-clause-whole c = refl

pub returns-clause-ticks : goal.returns-clause-ticks
unfolding history_text tick_lines digits
returns-clause-ticks c = refl

pub returns-clause-batch : goal.returns-clause-batch
unfolding history_text tick_lines connection_line tag_text command_text digits encode
returns-clause-batch c = refl
