use Rattle.history_model.proofs.Trails.{trail-untouched}
use Rattle.history_model.proofs.laws.trails.acts_on_other_places.Goals as goal

pub returns-clause-untouched : goal.returns-clause-untouched
returns-clause-untouched c = trail-untouched
