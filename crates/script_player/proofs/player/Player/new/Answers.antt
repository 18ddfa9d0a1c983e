use Rattle.std.proofs.Common.{ap}
use Rattle.stage_core.specs.Stage.{StageView}
use Rattle.script_player.proofs.Beginning.{nothing_begun, nothing_played}
use Rattle.script_player.proofs.player.Player.new.Goals as goal

pub returns-clause-ready : goal.returns-clause-ready
returns-clause-ready c = nothing_begun _ c.in_ok-stage.ensures c.in_ok-scenes.ensures c.new-3.ensures

pub returns-clause-empty : goal.returns-clause-empty
returns-clause-empty c = ap (λ (s : StageView). s.journal.events) c.in_ok-stage.ensures

pub returns-clause-represents : goal.returns-clause-represents
returns-clause-represents c = λ shown memory. nothing_played _ shown memory (ap (λ (s : StageView). s.journal.events) c.in_ok-stage.ensures) c.new-3.ensures
