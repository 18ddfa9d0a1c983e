use Rattle.mixer_state.proofs.Pasts.{takes_left}
use Rattle.mixer_state.proofs.laws.what_leaves_a_mixer.Goals as goal

pub returns-clause-command : goal.returns-clause-command
returns-clause-command c cmd ticks mixer leaves = takes_left cmd mixer ticks leaves
