use Rattle.std.proofs.Common.{◌-◌, ◌≤◌, length}
use Rattle.frame_digests.proofs.digesting.share_of.Given as goal

abbrev pub invariant-loop-count : goal.invariant-loop-count
invariant-loop-count l = l.count ≤ length l.frames

abbrev pub decreases-loop-count : goal.decreases-loop-count
decreases-loop-count l = length l.frames - l.count
