use Rattle.history_model.proofs.places.Commands.{state-act, state-later}
use Rattle.history_model.proofs.laws.places.states_one_by_one.Goals as goal

pub returns-clause-act : goal.returns-clause-act
returns-clause-act c = state-act

pub returns-clause-tick : goal.returns-clause-tick
returns-clause-tick c acts t place by = state-later acts t 1 place by
