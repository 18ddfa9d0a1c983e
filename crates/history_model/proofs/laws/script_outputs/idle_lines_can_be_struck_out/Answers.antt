use Rattle.history_model.proofs.Striking.{output-struck, events-struck}
use Rattle.history_model.proofs.laws.script_outputs.idle_lines_can_be_struck_out.Goals as goal

pub returns-clause-output : goal.returns-clause-output
returns-clause-output c = output-struck

pub returns-clause-history : goal.returns-clause-history
returns-clause-history c = events-struck
