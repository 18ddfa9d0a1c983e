use Rattle.std.proofs.Common.{refl}
use Rattle.history_model.proofs.places.Commands.{live_places-tick}
use Rattle.history_model.proofs.laws.places.live_places_one_by_one.Goals as goal

pub returns-clause-start : goal.returns-clause-start
returns-clause-start c t channel = refl

pub returns-clause-tick : goal.returns-clause-tick
returns-clause-tick c = live_places-tick
