use Rattle.std.proofs.Common.{refl}
use Rattle.history_model.specs.scripts.History.{events_after, goes_on, goes_on_after, script_events}
use Rattle.history_model.specs.scripts.Input.{ended_lines}
use Rattle.history_reader.specs.HistoryText.{fault_after}
use Rattle.history_reader.proofs.examples.texts_of_ticks.Goals as goal

pub returns-clause-right : goal.returns-clause-right
unfolding events_after goes_on goes_on_after script_events ended_lines fault_after
returns-clause-right c = refl

pub returns-clause-events : goal.returns-clause-events
unfolding events_after goes_on goes_on_after script_events ended_lines fault_after
returns-clause-events c = refl

pub returns-clause-stop : goal.returns-clause-stop
unfolding events_after goes_on goes_on_after script_events ended_lines fault_after
returns-clause-stop c = refl
