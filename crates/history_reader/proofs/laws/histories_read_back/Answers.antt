use Rattle.history_reader.proofs.RightTexts.{text_read_back, text_right, text_whole}
use Rattle.history_reader.proofs.laws.histories_read_back.Goals as goal

pub returns-clause-right : goal.returns-clause-right
returns-clause-right c = text_right

pub returns-clause-events : goal.returns-clause-events
returns-clause-events c = text_read_back

pub returns-clause-whole : goal.returns-clause-whole
returns-clause-whole c = text_whole
