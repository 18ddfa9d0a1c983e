use Rattle.layer_state.proofs.Pasts.{Represents-after}
use Rattle.layer_state.proofs.laws.pasts_go_on.Goals as goal

pub returns-clause-ticks : goal.returns-clause-ticks
returns-clause-ticks c = Represents-after
