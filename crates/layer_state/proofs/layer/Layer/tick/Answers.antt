use Rattle.std.proofs.Common.{◌≡◌, ap, ◌∙◌}
use Rattle.history_model.specs.stage.Life.{after, run_for}
use Rattle.history_model.proofs.Lives.{step_is_after}
use Rattle.layer_state.proofs.Pasts.{Represents-after}
use Rattle.layer_state.proofs.layer.Layer.tick.Goals as goal

pub returns-clause-after : goal.returns-clause-after
returns-clause-after c = c.run.ensures ∙ ap (run_for 1) c.make_ready.ensures.ready ∙ step_is_after c.args.self.now

pub returns-clause-past : goal.returns-clause-past
returns-clause-past c acts ticks represents =
    let same : c.run.new.self ≡ after c.args.self.now 1 = returns-clause-after c in
    rw same (Represents-after 1 c.args.self.now acts ticks represents)
