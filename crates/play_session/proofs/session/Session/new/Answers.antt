use Rattle.std.proofs.Common.{refl, ap}
use Rattle.play_session.proofs.Standing.{Represents-nothing}
use Rattle.play_session.proofs.session.Session.new.Goals as goal

pub returns-clause-represents : goal.returns-clause-represents
returns-clause-represents c = λ config media. Represents-nothing config media _ c.in_ok-reader.ensures (ap (λ b. b.is_open) c.in_ok-batch.ensures) refl
