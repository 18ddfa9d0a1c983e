use Rattle.history_model.proofs.AimedSteps.{steps_are_aimed}
use Rattle.history_model.proofs.Filled.{steps_are_filled}
use Rattle.history_model.proofs.laws.scripts.steps_of_streams.Goals as goal

pub returns-clause-aimed : goal.returns-clause-aimed
returns-clause-aimed c = steps_are_aimed

pub returns-clause-filled : goal.returns-clause-filled
returns-clause-filled c = steps_are_filled
