use Rattle.std.proofs.Common.{refl}
use Rattle.history_model.specs.scripts.History.{events_after, goes_on, goes_on_after, script_events}
use Rattle.history_model.specs.scripts.Input.{ended_lines}
use Rattle.history_reader.specs.HistoryText.{fault_after}
use Rattle.history_reader.proofs.examples.faulty_texts.Goals as goal

pub returns-clause-comment : goal.returns-clause-comment
unfolding events_after goes_on goes_on_after script_events ended_lines fault_after
returns-clause-comment c = refl

pub returns-clause-empty : goal.returns-clause-empty
unfolding events_after goes_on goes_on_after script_events ended_lines fault_after
returns-clause-empty c = refl

pub returns-clause-number : goal.returns-clause-number
unfolding events_after goes_on goes_on_after script_events ended_lines fault_after
returns-clause-number c = refl

pub returns-clause-carriage_return : goal.returns-clause-carriage_return
unfolding events_after goes_on goes_on_after script_events ended_lines fault_after
returns-clause-carriage_return c = refl
