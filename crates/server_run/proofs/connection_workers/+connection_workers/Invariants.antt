use Rattle.std.proofs.Common.{◌+◌, ◌*◌, length}
use Rattle.server_run.proofs.connection_workers.+connection_workers.Given as goal

abbrev pub decreases-work_both-join_mut+arg2 : goal.decreases-work_both-join_mut+arg2
decreases-work_both-join_mut+arg2 g l = 4 * length l.first.now + 3

abbrev pub decreases-work_both-join_mut+arg3 : goal.decreases-work_both-join_mut+arg3
decreases-work_both-join_mut+arg3 g l = 4 * length l.last.now + 3

abbrev pub decreases-work_all : goal.decreases-work_all
decreases-work_all g l = 4 * length l.connection_workers.now + 2

abbrev pub decreases-work_both : goal.decreases-work_both
decreases-work_both g l = 4 * (length l.first.now + length l.last.now) + 1
