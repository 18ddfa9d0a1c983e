use Rattle.std.proofs.Common.{◌≡◌}
use Rattle.frame_digests.proofs.digesting.digest_each.Given as goal

-- digests change no frame
abbrev pub invariant-loop-at : goal.invariant-loop-at
invariant-loop-at l = l.frames ≡ l.initial.frames
