use Rattle.history_model.proofs.Accepted.{mark-accepted}
use Rattle.history_model.proofs.Later.{SameHistory-mark, answer-same, pixel-same, sample-same}
use Rattle.history_model.proofs.laws.recordings.marks_change_nothing.Goals as goal

pub returns-clause-accepted : goal.returns-clause-accepted
returns-clause-accepted c = mark-accepted

pub returns-clause-answers : goal.returns-clause-answers
returns-clause-answers c setup before tag cmd mark later event is goes_on =
    answer-same setup _ _ (SameHistory-mark setup before tag cmd mark later is) event goes_on

pub returns-clause-pixels : goal.returns-clause-pixels
returns-clause-pixels c setup before tag cmd mark later channel x y is =
    pixel-same setup _ _ (SameHistory-mark setup before tag cmd mark later is) channel x y

pub returns-clause-samples : goal.returns-clause-samples
returns-clause-samples c setup before tag cmd mark later channel pair side is =
    sample-same setup _ _ (SameHistory-mark setup before tag cmd mark later is) channel pair side
