use Rattle.history_model.proofs.Generated.{generated-made}
use Rattle.history_model.proofs.laws.generator.generated_lines_are_accepted.Goals as goal

pub returns-clause-accepted : goal.returns-clause-accepted
returns-clause-accepted c = λ seed steps k d inside. (generated-made seed steps k d inside).accepted

pub returns-clause-short : goal.returns-clause-short
returns-clause-short c = λ seed steps k d inside. (generated-made seed steps k d inside).short
