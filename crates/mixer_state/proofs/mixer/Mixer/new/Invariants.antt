use Rattle.std.proofs.Common.{◌≡◌, [], replicate}
use Rattle.mixer_state.proofs.mixer.Mixer.new.Given as goal

-- no setting waits on the channels so far
abbrev pub invariant-loop-channel : goal.invariant-loop-channel
invariant-loop-channel l = l.waiting.items ≡ replicate l._channel []
