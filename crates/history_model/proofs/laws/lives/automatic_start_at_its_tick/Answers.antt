use Rattle.std.proofs.Common.{ap, sym, ◌∙◌}
use Rattle.history_model.specs.stage.Life.{ready}
use Rattle.history_model.proofs.Lives.{steps_are_after, ready_before, ready_when_due}
use Rattle.history_model.proofs.laws.lives.automatic_start_at_its_tick.Goals as goal

pub returns-clause-not_before : goal.returns-clause-not_before
returns-clause-not_before c s a j e below =
    ap ready (steps_are_after j s) ∙ ready_before s a j e below ∙ sym (steps_are_after j s)

pub returns-clause-due : goal.returns-clause-due
returns-clause-due c s a e = ap ready (steps_are_after a s) ∙ ready_when_due s a e
