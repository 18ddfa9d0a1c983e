use Rattle.history_model.proofs.stage.Shown.{foregrounds-places, statuses-places}
use Rattle.history_model.proofs.laws.stage.statuses_by_the_stage.Goals as goal

pub returns-clause-foregrounds : goal.returns-clause-foregrounds
returns-clause-foregrounds c = foregrounds-places

pub returns-clause-statuses : goal.returns-clause-statuses
returns-clause-statuses c = statuses-places
