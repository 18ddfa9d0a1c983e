use Rattle.cmd_print.proofs.Runs.{text_of_run}
use Rattle.cmd_print.proofs.laws.history_text_by_runs.Goals as goal

pub returns : goal.returns
returns c = text_of_run
