use Rattle.history_model.specs.stage.Trail.{acts_on_content, content_origin}
use Rattle.layer_state.proofs.Histories.{acts-past}
use Rattle.layer_state.proofs.Pasts.{IsPast-along}
use Rattle.layer_state.proofs.laws.acts_are_a_past.Goals as goal

pub returns-clause-history : goal.returns-clause-history
returns-clause-history c = acts-past

pub returns-clause-place : goal.returns-clause-place
returns-clause-place c past t at is_past = IsPast-along acts_on_content content_origin past at t is_past
