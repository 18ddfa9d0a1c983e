use Rattle.history_model.proofs.Later.{frame_pixel-before, frame_sample-before}
use Rattle.history_model.proofs.laws.histories.before_the_first_act.Goals as goal

pub returns-clause-pixels : goal.returns-clause-pixels
returns-clause-pixels c = frame_pixel-before

pub returns-clause-samples : goal.returns-clause-samples
returns-clause-samples c = frame_sample-before
