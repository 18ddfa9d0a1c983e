use Rattle.needed_frames.proofs.Counting.{none_deep}
use Rattle.needed_frames.proofs.depths.Depths.new.Goals as goal

pub returns-clause-depths : goal.returns-clause-depths
returns-clause-depths c = none_deep
