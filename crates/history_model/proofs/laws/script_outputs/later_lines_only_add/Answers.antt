use Rattle.history_model.proofs.Prefixes.{script_output-later, script_events-later}
use Rattle.history_model.proofs.laws.script_outputs.later_lines_only_add.Goals as goal

pub returns-clause-output : goal.returns-clause-output
returns-clause-output c = script_output-later

pub returns-clause-history : goal.returns-clause-history
returns-clause-history c = script_events-later
