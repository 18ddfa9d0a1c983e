use Rattle.std.proofs.Common.{◌≡◌, [], replicate, take}
use Rattle.play_types.proofs.scene.Scenes.clear.Given as goal

-- the channels so far show nothing
abbrev pub invariant-loop-scene : goal.invariant-loop-scene
invariant-loop-scene l = take l.scene-index l.scene-items ≡ replicate l.scene-index []
