use Rattle.server_run.proofs.Sessions.{IsCounted}
use Rattle.server_run.proofs.worker_session.last_session.Given as goal

-- the runs before the next one were counted
abbrev pub invariant-loop-run : goal.invariant-loop-run
invariant-loop-run l = IsCounted l.worker l.journal.events l.last l.run-iterator
