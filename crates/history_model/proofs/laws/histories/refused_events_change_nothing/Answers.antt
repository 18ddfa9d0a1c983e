use Rattle.history_model.proofs.Later.{SameHistory-refused, answer-same, pixel-same, sample-same, value-same, statuses-same}
use Rattle.history_model.proofs.laws.histories.refused_events_change_nothing.Goals as goal

pub returns-clause-answers : goal.returns-clause-answers
returns-clause-answers c setup before event later next refused goes_on =
    answer-same setup _ _ (SameHistory-refused setup before event later refused) next goes_on

pub returns-clause-pixels : goal.returns-clause-pixels
returns-clause-pixels c setup before event later channel x y refused =
    pixel-same setup _ _ (SameHistory-refused setup before event later refused) channel x y

pub returns-clause-samples : goal.returns-clause-samples
returns-clause-samples c setup before event later channel pair side refused =
    sample-same setup _ _ (SameHistory-refused setup before event later refused) channel pair side

pub returns-clause-values : goal.returns-clause-values
returns-clause-values c setup before event later place prop now refused =
    value-same setup _ _ (SameHistory-refused setup before event later refused) place prop now

pub returns-clause-statuses : goal.returns-clause-statuses
returns-clause-statuses c setup before event later refused =
    statuses-same setup _ _ (SameHistory-refused setup before event later refused)
