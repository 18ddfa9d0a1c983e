use Rattle.std.proofs.Common.{take}
use Rattle.play_sound.specs.Sounds.{sounds_of}
use Rattle.play_sound.proofs.Rows.{AreLayerSums}
use Rattle.play_sound.proofs.mix.mix_row.Given as goal

-- the sums of the layers so far
abbrev pub invariant-loop-drawn : goal.invariant-loop-drawn
invariant-loop-drawn l = AreLayerSums (sounds_of l.prev l.media) l.first (take l.drawn-index l.drawn-items) l.drawn-index l.sums
