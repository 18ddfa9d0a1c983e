use Rattle.history_replay.proofs.Marked.{log_events, log_output}
use Rattle.history_replay.proofs.laws.replays_of_logs_have_the_history.Goals as goal

pub returns-clause-history : goal.returns-clause-history
returns-clause-history c = log_events

pub returns-clause-output : goal.returns-clause-output
returns-clause-output c = log_output
