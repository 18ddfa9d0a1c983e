use Rattle.std.proofs.Common.{ap, ◌∙◌}
use Rattle.history_model.specs.stage.Acts.{acts}
use Rattle.history_model.specs.stage.Live.{live_layers}
use Rattle.history_model.proofs.Liveness.{acts-tick, trail-tick, live_layers-ticks}
use Rattle.history_model.proofs.laws.histories.ticks_keep_places.Goals as goal

pub returns-clause-acts : goal.returns-clause-acts
returns-clause-acts c = acts-tick

pub returns-clause-trails : goal.returns-clause-trails
returns-clause-trails c = trail-tick

pub returns-clause-live : goal.returns-clause-live
returns-clause-live c history t u channel =
    ap (λ past. live_layers past t channel) (acts-tick history) ∙ live_layers-ticks (acts history) t u channel
