use Rattle.needed_frames.proofs.Whole.{depth-ticks}
use Rattle.needed_frames.proofs.laws.depths_are_within_histories.Goals as goal

pub returns : goal.returns
returns c history channel = depth-ticks history channel
