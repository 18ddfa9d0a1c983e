use Rattle.play_viewer.proofs.Runs.{told_as_met, told_without_memory}
use Rattle.play_viewer.proofs.ending.end_with.Goals as goal

pub returns-in-Some-clause-ends : goal.returns-in-Some-clause-ends
returns-in-Some-clause-ends g c = told_as_met _ _ _ _ c.say.ensures.said c.say.ensures.status

pub returns-in-Ok-clause-ends : goal.returns-in-Ok-clause-ends
returns-in-Ok-clause-ends g c = told_as_met _ _ _ _ c.say-in-Ok.ensures.said c.say-in-Ok.ensures.status

pub returns-in-Err-clause-ends : goal.returns-in-Err-clause-ends
returns-in-Err-clause-ends g c = told_without_memory _ _ _ _ c.in_default.ensures c.end_without_memory.ensures.said c.end_without_memory.ensures.status
