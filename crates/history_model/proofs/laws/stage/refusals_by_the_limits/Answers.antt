use Rattle.history_model.proofs.stage.Histories.{is_over-history}
use Rattle.history_model.proofs.stage.Refusals.{is_over-within, with_command-over, with_command-within}
use Rattle.history_model.proofs.laws.stage.refusals_by_the_limits.Goals as goal

pub returns-clause-taken : goal.returns-clause-taken
returns-clause-taken c = with_command-within

pub returns-clause-refused : goal.returns-clause-refused
returns-clause-refused c = with_command-over

pub returns-clause-within : goal.returns-clause-within
returns-clause-within c = is_over-within

pub returns-clause-history : goal.returns-clause-history
returns-clause-history c = is_over-history
