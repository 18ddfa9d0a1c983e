use Rattle.history_replay.proofs.LeftOver.{cut_accepted, cut_log, cut_made, cut_prefix, cut_replays}
use Rattle.history_replay.proofs.laws.cut_logs_play_the_beginning.Goals as goal

pub returns-clause-accepted : goal.returns-clause-accepted
returns-clause-accepted c = cut_accepted

pub returns-clause-history : goal.returns-clause-history
returns-clause-history c = cut_prefix

pub returns-clause-replays : goal.returns-clause-replays
returns-clause-replays c = λ playout pieces cut played h of same without. cut_replays playout pieces cut h of played same without

pub returns-clause-log : goal.returns-clause-log
returns-clause-log c = cut_log

pub returns-clause-made : goal.returns-clause-made
returns-clause-made c = cut_made
