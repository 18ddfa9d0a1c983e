use Rattle.server_run.specs.Run.{playout_of}
use Rattle.server_laws.proofs.IsShownAgain.{shown_again}
use Rattle.server_laws.proofs.laws.frames_are_written_again.Goals as goal

pub returns : goal.returns
returns c = λ program digests. shown_again (playout_of program digests)
