use Rattle.layer_state.proofs.Pasts.{ticked-after}
use Rattle.layer_state.proofs.laws.ticks_one_by_one.Goals as goal

pub returns : goal.returns
returns c = ticked-after
