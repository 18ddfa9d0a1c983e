use Rattle.history_model.proofs.Groups.{pixel-without, sample-without, value-without, statuses-without, without-before, waiting-without}
use Rattle.history_model.proofs.laws.groups.waiting_settings_change_nothing.Goals as goal

pub returns-clause-pixels : goal.returns-clause-pixels
returns-clause-pixels c = pixel-without

pub returns-clause-samples : goal.returns-clause-samples
returns-clause-samples c = sample-without

pub returns-clause-values : goal.returns-clause-values
returns-clause-values c = value-without

pub returns-clause-statuses : goal.returns-clause-statuses
returns-clause-statuses c = statuses-without

pub returns-clause-before : goal.returns-clause-before
returns-clause-before c = without-before

pub returns-clause-none : goal.returns-clause-none
returns-clause-none c = waiting-without
