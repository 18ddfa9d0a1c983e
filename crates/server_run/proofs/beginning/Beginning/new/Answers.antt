use Rattle.std.proofs.Common.{ap}
use Rattle.stage_core.specs.Stage.{StageView}
use Rattle.server_run.proofs.IsBeginning.{new_beginning}
use Rattle.server_run.proofs.beginning.Beginning.new.Goals as goal

pub returns-clause-begins : goal.returns-clause-begins
returns-clause-begins c = λ media. new_beginning c.args.config.now media _ c.frames_from_the_beginning.ensures.blank c.in_ok-stage.ensures c.in_ok-renderer.ensures

pub returns-clause-none : goal.returns-clause-none
returns-clause-none c = ap (λ (s : StageView). s.journal.events) c.in_ok-stage.ensures
