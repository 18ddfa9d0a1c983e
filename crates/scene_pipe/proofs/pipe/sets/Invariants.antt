use Rattle.std.proofs.Common.{◌≡◌, [], length, replicate}
use Rattle.scene_pipe.proofs.pipe.sets.Given as goal

abbrev pub invariant-loop-set : goal.invariant-loop-set
invariant-loop-set l = l.sets.items ≡ replicate l._set (replicate (length l.config.channels) [])
