use Rattle.history_reader.proofs.RightTexts.{cut_events, cut_right}
use Rattle.history_reader.proofs.laws.cut_logs_read_back.Goals as goal

pub returns-clause-right : goal.returns-clause-right
returns-clause-right c = λ playout pieces cut h of. cut_right playout pieces h cut of

pub returns-clause-events : goal.returns-clause-events
returns-clause-events c = λ playout pieces cut h of. cut_events playout pieces h cut of
