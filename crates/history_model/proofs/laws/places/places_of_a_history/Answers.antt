use Rattle.history_model.proofs.places.Histories.{places-start, places-states}
use Rattle.history_model.proofs.laws.places.places_of_a_history.Goals as goal

pub returns-clause-start : goal.returns-clause-start
returns-clause-start c = places-start

pub returns-clause-states : goal.returns-clause-states
returns-clause-states c = places-states
