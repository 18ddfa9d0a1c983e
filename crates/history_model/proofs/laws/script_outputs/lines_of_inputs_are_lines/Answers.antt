use Rattle.history_model.proofs.OneLines.{AreLines-first, AreLines-input, AreLines-last, AreLines-until_stop}
use Rattle.history_model.proofs.laws.script_outputs.lines_of_inputs_are_lines.Goals as goal

pub returns-clause-all : goal.returns-clause-all
returns-clause-all c = AreLines-input

pub returns-clause-stopped : goal.returns-clause-stopped
returns-clause-stopped c = AreLines-until_stop

pub returns-clause-first : goal.returns-clause-first
returns-clause-first c = AreLines-first

pub returns-clause-last : goal.returns-clause-last
returns-clause-last c = AreLines-last
