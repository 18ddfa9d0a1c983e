use Rattle.history_model.proofs.stage.Changes.{acts_after_all-append, some_is_refused-append, state_after_all-append}
use Rattle.history_model.proofs.laws.stage.commands_in_two_parts.Goals as goal

pub returns-clause-refused : goal.returns-clause-refused
returns-clause-refused c = some_is_refused-append

pub returns-clause-state : goal.returns-clause-state
returns-clause-state c = state_after_all-append

pub returns-clause-acts : goal.returns-clause-acts
returns-clause-acts c = acts_after_all-append
