use Rattle.server_run.proofs.Sessions.{link_tags_new}
use Rattle.server_laws.proofs.laws.tags_are_new.Goals as goal

pub returns : goal.returns
returns g c = λ given runs tag of. link_tags_new given 1 runs tag of
