use Rattle.history_model.proofs.stage.Histories.{stage_after-batch, stage_after-command, stage_after-stop, stage_after-tick}
use Rattle.history_model.proofs.laws.stage.stage_after_one_more_event.Goals as goal

pub returns-clause-command : goal.returns-clause-command
returns-clause-command c = stage_after-command

pub returns-clause-batch : goal.returns-clause-batch
returns-clause-batch c = stage_after-batch

pub returns-clause-tick : goal.returns-clause-tick
returns-clause-tick c = stage_after-tick

pub returns-clause-stop : goal.returns-clause-stop
returns-clause-stop c = stage_after-stop
