use Rattle.history_model.proofs.Lives.{steps_are_after}
use Rattle.history_model.proofs.laws.lives.stepping_is_jumping.Goals as goal

pub returns-clause-steps : goal.returns-clause-steps
returns-clause-steps c = steps_are_after
