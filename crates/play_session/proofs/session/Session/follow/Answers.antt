use Rattle.std.proofs.Common.{subst}
use Rattle.std.specs.Prelude.{Ok}
use Rattle.play_session.specs.SessionState.{SessionState}
use Rattle.play_session.specs.inner.Following.{Follows, batch_of}
use Rattle.play_session.proofs.session.Session.follow.Goals as goal

pub returns-in-Ok-clause-follows : goal.returns-in-Ok-clause-follows
returns-in-Ok-clause-follows c =
    rw c.in-Ok.is
    (subst
    (λ (before : SessionState). Follows {E = Unit {0}} (Ok c.in-Ok.read) c.step-step.result (batch_of before) c.step-step.new.self)
    c.self.view_is (c.step-step.ensures.step, c.step-step.ensures.batch))
