use Rattle.std.proofs.Common.{refl}
use Rattle.history_model.proofs.stage.Changes.{live_places-live_after, stage_state-command, stage_state-commands, stage_state-tick, waiting_settings-more}
use Rattle.history_model.proofs.laws.stage.stage_one_by_one.Goals as goal

pub returns-clause-start : goal.returns-clause-start
returns-clause-start c t = refl

pub returns-clause-places : goal.returns-clause-places
returns-clause-places c = live_places-live_after

pub returns-clause-settings : goal.returns-clause-settings
returns-clause-settings c = waiting_settings-more

pub returns-clause-command : goal.returns-clause-command
returns-clause-command c = stage_state-command

pub returns-clause-commands : goal.returns-clause-commands
returns-clause-commands c = stage_state-commands

pub returns-clause-tick : goal.returns-clause-tick
returns-clause-tick c = stage_state-tick
