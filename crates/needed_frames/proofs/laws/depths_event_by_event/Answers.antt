use Rattle.needed_frames.proofs.Counting.{depth-last, depths-other}
use Rattle.needed_frames.proofs.laws.depths_event_by_event.Goals as goal

pub returns-clause-other : goal.returns-clause-other
returns-clause-other c channels history event depths other has = depths-other channels history event depths other has

pub returns-clause-tick : goal.returns-clause-tick
returns-clause-tick c history channel = depth-last history channel
