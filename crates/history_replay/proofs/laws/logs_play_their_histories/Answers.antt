use Rattle.history_replay.proofs.Pieces.{log_accepted, log_plays}
use Rattle.history_replay.proofs.laws.logs_play_their_histories.Goals as goal

pub returns-clause-accepted : goal.returns-clause-accepted
returns-clause-accepted c = log_accepted

pub returns-clause-history : goal.returns-clause-history
returns-clause-history c = λ playout pieces h. (log_plays playout pieces h).made

pub returns-clause-output : goal.returns-clause-output
returns-clause-output c = λ playout pieces h. (log_plays playout pieces h).wrote

pub returns-clause-goes_on : goal.returns-clause-goes_on
returns-clause-goes_on c = λ playout pieces h. (log_plays playout pieces h).goes
