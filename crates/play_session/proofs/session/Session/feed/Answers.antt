use Rattle.std.proofs.Common.{refl, sym, subst}
use Rattle.play_session.proofs.Standing.{Represents-fed}
use Rattle.play_session.specs.Session.{Represents}
use Rattle.play_session.specs.SessionState.{SessionState}
use Rattle.play_session.proofs.session.Session.feed.Goals as goal

pub returns-clause-represents : goal.returns-clause-represents
returns-clause-represents c = λ config media progress s.
    let inner = subst (λ (session : SessionState). Represents config media session progress) (sym c.self.view_is) s in
    Represents-fed config media _ _ progress _ inner c.feed.ensures.stands refl refl refl
