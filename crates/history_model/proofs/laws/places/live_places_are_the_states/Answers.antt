use Rattle.history_model.proofs.places.Layers.{ArePlaces-live, standing-live}
use Rattle.history_model.proofs.laws.places.live_places_are_the_states.Goals as goal

pub returns-clause-list : goal.returns-clause-list
returns-clause-list c = ArePlaces-live

pub returns-clause-lives : goal.returns-clause-lives
returns-clause-lives c = standing-live
