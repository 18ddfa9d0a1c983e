use Rattle.history_model.proofs.Later.{SameHistory-info, answer-same, pixel-same}
use Rattle.history_model.proofs.laws.histories.status_queries_change_nothing.Goals as goal

pub returns-clause-answers : goal.returns-clause-answers
returns-clause-answers c setup before tag later event goes_on =
    answer-same setup _ _ (SameHistory-info setup before tag later) event goes_on

pub returns-clause-pixels : goal.returns-clause-pixels
returns-clause-pixels c setup before tag later channel x y =
    pixel-same setup _ _ (SameHistory-info setup before tag later) channel x y
