use Rattle.history_model.proofs.stage.Shown.{last_shown-batch, last_shown-command, last_shown-start, last_shown-stop, last_shown-tick, next_shown-places}
use Rattle.history_model.proofs.laws.stage.last_shown_one_by_one.Goals as goal

pub returns-clause-start : goal.returns-clause-start
returns-clause-start c = last_shown-start

pub returns-clause-command : goal.returns-clause-command
returns-clause-command c = last_shown-command

pub returns-clause-batch : goal.returns-clause-batch
returns-clause-batch c = last_shown-batch

pub returns-clause-tick : goal.returns-clause-tick
returns-clause-tick c = last_shown-tick

pub returns-clause-stop : goal.returns-clause-stop
returns-clause-stop c = last_shown-stop

pub returns-clause-states : goal.returns-clause-states
returns-clause-states c = next_shown-places
