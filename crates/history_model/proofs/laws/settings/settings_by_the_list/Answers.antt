use Rattle.history_model.proofs.Listed.{resolved_acts-listed, value_at-listed, waiting_settings-listed}
use Rattle.history_model.proofs.laws.settings.settings_by_the_list.Goals as goal

pub returns-clause-waiting : goal.returns-clause-waiting
returns-clause-waiting c = waiting_settings-listed

pub returns-clause-acts : goal.returns-clause-acts
returns-clause-acts c = resolved_acts-listed

pub returns-clause-values : goal.returns-clause-values
returns-clause-values c = value_at-listed
