use Rattle.history_replay.proofs.Pieces.{text_accepted, text_plays}
use Rattle.history_replay.proofs.laws.text_plays_its_history.Goals as goal

pub returns-clause-accepted : goal.returns-clause-accepted
returns-clause-accepted c = text_accepted

pub returns-clause-history : goal.returns-clause-history
returns-clause-history c = λ playout history h. (text_plays playout history h).made

pub returns-clause-output : goal.returns-clause-output
returns-clause-output c = λ playout history h. (text_plays playout history h).wrote

pub returns-clause-goes_on : goal.returns-clause-goes_on
returns-clause-goes_on c = λ playout history h. (text_plays playout history h).goes
