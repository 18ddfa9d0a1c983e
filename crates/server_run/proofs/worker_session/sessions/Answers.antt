use Rattle.server_run.proofs.Sessions.{one_session_more}
use Rattle.server_run.proofs.worker_session.sessions.Goals as goal

pub loop-place-preserved : goal.loop-place-preserved
loop-place-preserved c =
    one_session_more c.args.journal.now.events c.loop-place.place c.loop-place.sessions.items _ _ c.loop-place.invariant c.in_ok-push.ensures.items
    c.last_session-served.ensures
