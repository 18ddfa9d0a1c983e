use Rattle.history_model.proofs.Accepted.{commit-accepted}
use Rattle.history_model.proofs.laws.groups.commits_are_accepted.Goals as goal

pub returns : goal.returns
returns c = commit-accepted
