use Rattle.history_reader.proofs.RightTexts.{log_events, log_right, log_whole}
use Rattle.history_reader.proofs.laws.logs_read_back.Goals as goal

pub returns-clause-right : goal.returns-clause-right
returns-clause-right c = log_right

pub returns-clause-events : goal.returns-clause-events
returns-clause-events c = log_events

pub returns-clause-whole : goal.returns-clause-whole
returns-clause-whole c = log_whole
