use Rattle.history_model.proofs.Liveness.{acts-tick}
use Rattle.history_model.proofs.stage.Histories.{acts-batch, acts-command, acts-stop, waiting-acts}
use Rattle.history_model.proofs.laws.stage.acts_by_the_stage.Goals as goal

pub returns-clause-command : goal.returns-clause-command
returns-clause-command c = acts-command

pub returns-clause-batch : goal.returns-clause-batch
returns-clause-batch c = acts-batch

pub returns-clause-tick : goal.returns-clause-tick
returns-clause-tick c = acts-tick

pub returns-clause-stop : goal.returns-clause-stop
returns-clause-stop c = acts-stop

pub returns-clause-waiting : goal.returns-clause-waiting
returns-clause-waiting c = waiting-acts
