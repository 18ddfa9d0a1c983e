use Rattle.history_model.proofs.Timelines.{acts-timeline, ticks-timeline, pixel-timeline, sample-timeline, value-timeline, statuses-timeline}
use Rattle.history_model.proofs.laws.timelines.histories_are_timelines.Goals as goal

pub returns-clause-acts : goal.returns-clause-acts
returns-clause-acts c = acts-timeline

pub returns-clause-ticks : goal.returns-clause-ticks
returns-clause-ticks c = ticks-timeline

pub returns-clause-pixels : goal.returns-clause-pixels
returns-clause-pixels c = pixel-timeline

pub returns-clause-samples : goal.returns-clause-samples
returns-clause-samples c = sample-timeline

pub returns-clause-values : goal.returns-clause-values
returns-clause-values c = value-timeline

pub returns-clause-statuses : goal.returns-clause-statuses
returns-clause-statuses c = statuses-timeline
