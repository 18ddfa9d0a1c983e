use Rattle.history_model.proofs.Runs.{events-equal, output-equal, replies-equal}
use Rattle.history_model.proofs.WithMemory.{HasMemory-with_memory}
use Rattle.history_model.proofs.laws.script_outputs.runs_with_memory_are_equal.Goals as goal

pub returns-clause-output : goal.returns-clause-output
returns-clause-output c = output-equal

pub returns-clause-replies : goal.returns-clause-replies
returns-clause-replies c = replies-equal

pub returns-clause-history : goal.returns-clause-history
returns-clause-history c = events-equal

pub returns-clause-some : goal.returns-clause-some
returns-clause-some c = HasMemory-with_memory
