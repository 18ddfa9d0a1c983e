use Rattle.history_model.proofs.stage.Histories.{AreBy-acts, ArePlaces-places, IsWithinLimits-history, stage_after-acts, stage_after-start, standing-places}
use Rattle.history_model.proofs.laws.stage.stage_of_a_history.Goals as goal

pub returns-clause-start : goal.returns-clause-start
returns-clause-start c = stage_after-start

pub returns-clause-acts : goal.returns-clause-acts
returns-clause-acts c = stage_after-acts

pub returns-clause-list : goal.returns-clause-list
returns-clause-list c = ArePlaces-places

pub returns-clause-lives : goal.returns-clause-lives
returns-clause-lives c = standing-places

pub returns-clause-within : goal.returns-clause-within
returns-clause-within c = IsWithinLimits-history

pub returns-clause-by : goal.returns-clause-by
returns-clause-by c = AreBy-acts
