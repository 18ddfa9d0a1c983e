use Rattle.history_model.proofs.Frames.{acts-one_more}
use Rattle.history_model.proofs.laws.frames.acts_of_one_more_event.Goals as goal

pub returns : goal.returns
returns c = acts-one_more
