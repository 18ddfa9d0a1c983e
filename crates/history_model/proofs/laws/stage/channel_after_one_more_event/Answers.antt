use Rattle.history_model.proofs.stage.Histories.{places-batch, places-command, places-other, places-stop, places-tick, waiting-command}
use Rattle.history_model.proofs.laws.stage.channel_after_one_more_event.Goals as goal

pub returns-clause-command : goal.returns-clause-command
returns-clause-command c = places-command

pub returns-clause-batch : goal.returns-clause-batch
returns-clause-batch c = places-batch

pub returns-clause-tick : goal.returns-clause-tick
returns-clause-tick c = places-tick

pub returns-clause-stop : goal.returns-clause-stop
returns-clause-stop c = places-stop

pub returns-clause-other : goal.returns-clause-other
returns-clause-other c = places-other

pub returns-clause-waiting : goal.returns-clause-waiting
returns-clause-waiting c = waiting-command
