use Rattle.std.proofs.Common.{◌≡◌, [], replicate}
use Rattle.play_types.proofs.scene.Scenes.new.Given as goal

abbrev pub invariant-loop-channel : goal.invariant-loop-channel
invariant-loop-channel l = l.scenes.items ≡ replicate l._channel []
