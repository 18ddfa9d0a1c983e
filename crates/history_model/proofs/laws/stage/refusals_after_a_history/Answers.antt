use Rattle.history_model.proofs.stage.Histories.{is_refused-batch, is_refused-command}
use Rattle.history_model.proofs.laws.stage.refusals_after_a_history.Goals as goal

pub returns-clause-command : goal.returns-clause-command
returns-clause-command c = is_refused-command

pub returns-clause-batch : goal.returns-clause-batch
returns-clause-batch c = is_refused-batch
