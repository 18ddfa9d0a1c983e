use Rattle.std.proofs.Common.{◌≡◌, ◌-◌, ◌*◌, ◌≤◌, ◌++◌, drop}
use Rattle.play_sound.specs.Sounds.{bytes_of_samples, mixed_sample, sounds_of}
use Rattle.play_sound.proofs.mix.mix_sound.Given as goal

-- the pairs so far are written
abbrev pub invariant-rows : goal.invariant-rows
invariant-rows l = record {
  within : l.first ≤ l.pairs;
  written : l.out ≡ bytes_of_samples l.first (mixed_sample (sounds_of l.prev l.media) l.scene) ++ drop (4 * l.first) l.fn.out;
}

abbrev pub decreases-rows : goal.decreases-rows
decreases-rows l = l.pairs - l.first
