use Rattle.history_model.proofs.Commits.{pixel-group, sample-group, value-group, statuses-group, acts-group}
use Rattle.history_model.proofs.laws.groups.commit_starts_its_group.Goals as goal

pub returns-clause-pixels : goal.returns-clause-pixels
returns-clause-pixels c = pixel-group

pub returns-clause-samples : goal.returns-clause-samples
returns-clause-samples c = sample-group

pub returns-clause-values : goal.returns-clause-values
returns-clause-values c = value-group

pub returns-clause-statuses : goal.returns-clause-statuses
returns-clause-statuses c = statuses-group

pub returns-clause-together : goal.returns-clause-together
returns-clause-together c = acts-group
