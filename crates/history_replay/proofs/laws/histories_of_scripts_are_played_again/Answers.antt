use Rattle.history_replay.proofs.Named.{script_replayable, script_replayed, text_named}
use Rattle.history_replay.proofs.Written.{steps_are_written}
use Rattle.history_replay.proofs.laws.histories_of_scripts_are_played_again.Goals as goal

pub returns-clause-steps : goal.returns-clause-steps
returns-clause-steps c = steps_are_written

pub returns-clause-tags : goal.returns-clause-tags
returns-clause-tags c = text_named

pub returns-clause-replayable : goal.returns-clause-replayable
returns-clause-replayable c = λ playout played known named short. script_replayable playout known played named short

pub returns-clause-again : goal.returns-clause-again
returns-clause-again c = λ playout text played known same short. script_replayed playout known text played same short
