use Rattle.std.proofs.Common.{◌≡◌}
use Rattle.server_run.specs.inner.Threads.{counts_of, sessions_in}
use Rattle.server_run.proofs.worker_session.sessions.Given as goal

-- the sessions of the workers so far
abbrev pub invariant-loop-place : goal.invariant-loop-place
invariant-loop-place l = counts_of l.sessions.items ≡ sessions_in l.journal.events l.place
