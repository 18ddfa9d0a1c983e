use Rattle.history_model.proofs.stage.Refusals.{IsWithinLimits-command, IsWithinLimits-commands, with_command-state, with_commands-state}
use Rattle.history_model.proofs.laws.stage.refusals_by_the_stage.Goals as goal

pub returns-clause-command : goal.returns-clause-command
returns-clause-command c = with_command-state

pub returns-clause-commands : goal.returns-clause-commands
returns-clause-commands c = with_commands-state

pub returns-clause-within : goal.returns-clause-within
returns-clause-within c = IsWithinLimits-command

pub returns-clause-within_all : goal.returns-clause-within_all
returns-clause-within_all c = IsWithinLimits-commands
