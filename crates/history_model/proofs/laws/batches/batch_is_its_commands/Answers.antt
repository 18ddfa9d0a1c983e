use Rattle.history_model.proofs.Batches.{answer-batch, pixel-batch, sample-batch, value-batch, statuses-batch, accepted-each, timeline-batch}
use Rattle.history_model.proofs.laws.batches.batch_is_its_commands.Goals as goal

pub returns-clause-answers : goal.returns-clause-answers
returns-clause-answers c = answer-batch

pub returns-clause-pixels : goal.returns-clause-pixels
returns-clause-pixels c = pixel-batch

pub returns-clause-samples : goal.returns-clause-samples
returns-clause-samples c = sample-batch

pub returns-clause-values : goal.returns-clause-values
returns-clause-values c = value-batch

pub returns-clause-statuses : goal.returns-clause-statuses
returns-clause-statuses c = statuses-batch

pub returns-clause-accepted : goal.returns-clause-accepted
returns-clause-accepted c = accepted-each

pub returns-clause-timeline : goal.returns-clause-timeline
returns-clause-timeline c = timeline-batch
