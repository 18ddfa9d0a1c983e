use Rattle.history_model.proofs.Scripts.{script_kept, script_running}
use Rattle.history_model.proofs.laws.scripts.histories_of_scripts.Goals as goal

pub returns-clause-history : goal.returns-clause-history
returns-clause-history c = λ playout lines. (script_kept playout lines).history

pub returns-clause-limit : goal.returns-clause-limit
returns-clause-limit c = λ playout lines. (script_kept playout lines).within

pub returns-clause-running : goal.returns-clause-running
returns-clause-running c = script_running
