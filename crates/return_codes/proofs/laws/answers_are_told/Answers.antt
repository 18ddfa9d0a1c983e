use Rattle.return_codes.proofs.Answered.{told_batch, told_command}
use Rattle.return_codes.proofs.laws.answers_are_told.Goals as goal

pub returns-clause-command : goal.returns-clause-command
returns-clause-command c = told_command

pub returns-clause-batch : goal.returns-clause-batch
returns-clause-batch c = told_batch
