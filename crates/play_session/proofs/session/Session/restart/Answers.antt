use Rattle.std.proofs.Common.{refl, rules}
use Rattle.play_session.proofs.Standing.{Represents-nothing}
use Rattle.play_session.proofs.session.Session.restart.Goals as goal

pub returns-clause-represents : goal.returns-clause-represents
returns-clause-represents c = λ config media. Represents-nothing config media _ c.clear.ensures (search rules) refl
