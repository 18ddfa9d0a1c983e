use Rattle.std.proofs.Common.{◌≡◌, ◌+◌, ◌*◌, ◌++◌, drop}
use Rattle.history_model.specs.pictures.Sound.{held_to_sample}
use Rattle.play_types.specs.Setting.{number_at}
use Rattle.play_sound.specs.Sounds.{bytes_of_samples}
use Rattle.play_sound.proofs.sums.write_samples.Given as goal

-- the pairs so far are written
abbrev pub invariant-loop-pair : goal.invariant-loop-pair
invariant-loop-pair l =
    l.row ≡ bytes_of_samples l.pair (λ pair side. held_to_sample (number_at l.sums (2 * pair + side))) ++ drop (4 * l.pair) l.initial.row
