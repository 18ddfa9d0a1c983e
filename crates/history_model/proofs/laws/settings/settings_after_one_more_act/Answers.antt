use Rattle.history_model.proofs.Listed.{resolved_acts-act, waiting_settings-act}
use Rattle.history_model.proofs.laws.settings.settings_after_one_more_act.Goals as goal

pub returns-clause-waiting : goal.returns-clause-waiting
returns-clause-waiting c = waiting_settings-act

pub returns-clause-acts : goal.returns-clause-acts
returns-clause-acts c = resolved_acts-act
