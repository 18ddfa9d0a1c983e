use Rattle.history_model.proofs.Liveness.{is_live-life}
use Rattle.history_model.proofs.laws.lives.ticks_keep_a_place_live.Goals as goal

pub returns-clause-acts : goal.returns-clause-acts
returns-clause-acts c = is_live-life
