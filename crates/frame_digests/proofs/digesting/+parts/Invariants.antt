use Rattle.std.proofs.Common.{◌+◌, ◌-◌, ◌*◌}
use Rattle.frame_digests.proofs.digesting.+parts.Given as goal

abbrev pub decreases-digest_both-join_mut+arg2 : goal.decreases-digest_both-join_mut+arg2
decreases-digest_both-join_mut+arg2 g l = 4 * l.first_threads + 1

abbrev pub decreases-digest_both-join_mut+arg3 : goal.decreases-digest_both-join_mut+arg3
decreases-digest_both-join_mut+arg3 g l = 4 * l.last_threads + 1

abbrev pub decreases-digest_all : goal.decreases-digest_all
decreases-digest_all g l = 4 * l.threads

abbrev pub decreases-digest_both : goal.decreases-digest_both
decreases-digest_both g l = 4 * (l.first_threads + l.last_threads) - 1
