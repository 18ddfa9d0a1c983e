use Rattle.std.proofs.Common.{refl}
use Rattle.history_model.specs.scripts.History.{events_after, goes_on, goes_on_after, script_events}
use Rattle.history_model.specs.scripts.Input.{ended_lines}
use Rattle.history_reader.specs.HistoryText.{fault_after}
use Rattle.history_reader.proofs.examples.texts_that_were_cut.Goals as goal

pub returns-clause-cut : goal.returns-clause-cut
unfolding events_after goes_on goes_on_after script_events ended_lines fault_after
returns-clause-cut c = refl

pub returns-clause-garbage : goal.returns-clause-garbage
unfolding events_after goes_on goes_on_after script_events ended_lines fault_after
returns-clause-garbage c = refl

pub returns-clause-after : goal.returns-clause-after
unfolding events_after goes_on goes_on_after script_events ended_lines fault_after
returns-clause-after c = refl

pub returns-clause-none : goal.returns-clause-none
unfolding events_after goes_on goes_on_after script_events ended_lines fault_after
returns-clause-none c = refl
