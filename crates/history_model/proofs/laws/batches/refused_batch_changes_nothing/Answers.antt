use Rattle.std.proofs.Common.{[]}
use Rattle.play_types.specs.declared.event.Event.TheVariants.{Batch}
use Rattle.history_model.specs.pictures.Media.{Setup}
use Rattle.history_model.proofs.Batches.{refused-one, timeline-refused}
use Rattle.history_model.proofs.Later.{SameHistory-refused, answer-same, pixel-same, sample-same, value-same, statuses-same}
use Rattle.history_model.proofs.laws.batches.refused_batch_changes_nothing.Goals as goal

pub returns-clause-one : goal.returns-clause-one
returns-clause-one c = refused-one

pub returns-clause-answers : goal.returns-clause-answers
returns-clause-answers c setup before tag cmds later next refused goes_on =
    answer-same setup _ _ (SameHistory-refused setup before (Batch tag cmds) later refused) next goes_on

pub returns-clause-pixels : goal.returns-clause-pixels
returns-clause-pixels c setup before tag cmds later channel x y refused =
    pixel-same setup _ _ (SameHistory-refused setup before (Batch tag cmds) later refused) channel x y

pub returns-clause-samples : goal.returns-clause-samples
returns-clause-samples c setup before tag cmds later channel pair side refused =
    sample-same setup _ _ (SameHistory-refused setup before (Batch tag cmds) later refused) channel pair side

no_media : Setup
no_media = record { channels = []; clips = [] }

pub returns-clause-values : goal.returns-clause-values
returns-clause-values c before tag cmds later place prop now refused =
    value-same no_media _ _ (SameHistory-refused no_media before (Batch tag cmds) later refused) place prop now

pub returns-clause-statuses : goal.returns-clause-statuses
returns-clause-statuses c setup before tag cmds later refused =
    statuses-same setup _ _ (SameHistory-refused setup before (Batch tag cmds) later refused)

pub returns-clause-timeline : goal.returns-clause-timeline
returns-clause-timeline c = timeline-refused
