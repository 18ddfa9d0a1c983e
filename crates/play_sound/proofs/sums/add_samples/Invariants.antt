use Rattle.std.proofs.Common.{◌-◌}
use Rattle.play_sound.specs.inner.Rows.{at_volume, sample_at}
use Rattle.play_sound.proofs.Adding.{AreAddedTo}
use Rattle.play_sound.proofs.sums.add_samples.Given as goal

abbrev pub invariant-samples : goal.invariant-samples
invariant-samples l = AreAddedTo (λ k. at_volume (sample_at l.fn.sound k) l.fn.volume) l.fn.sums l.sums l.at

abbrev pub decreases-samples : goal.decreases-samples
decreases-samples l = l.count - l.at
