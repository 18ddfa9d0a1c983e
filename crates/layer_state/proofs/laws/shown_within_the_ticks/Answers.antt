use Rattle.layer_state.proofs.Growth.{shown-few}
use Rattle.layer_state.proofs.laws.shown_within_the_ticks.Goals as goal

pub returns : goal.returns
returns c = shown-few
