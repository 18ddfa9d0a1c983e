use Rattle.history_model.proofs.places.Lists.{same_places, standing-with_place, ArePlaces-with_place}
use Rattle.history_model.proofs.laws.places.places_by_layer.Goals as goal

pub returns-clause-same : goal.returns-clause-same
returns-clause-same c = same_places

pub returns-clause-put : goal.returns-clause-put
returns-clause-put c = standing-with_place

pub returns-clause-list : goal.returns-clause-list
returns-clause-list c = ArePlaces-with_place
