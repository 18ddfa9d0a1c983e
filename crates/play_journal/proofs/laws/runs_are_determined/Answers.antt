use Rattle.play_journal.proofs.Determined.{same_runs}
use Rattle.play_journal.proofs.laws.runs_are_determined.Goals as goal

pub returns : goal.returns
returns c = same_runs
