use Rattle.std.proofs.Common.{◌-◌}
use Rattle.history_model.specs.pictures.Sound.{mixed_sample}
use Rattle.play_sound.specs.inner.Rows.{at_volume, sample_at}
use Rattle.play_sound.proofs.Adding.{AreAddedTo}
use Rattle.play_sound.proofs.sums.add_mixed.Given as goal

abbrev pub invariant-samples : goal.invariant-samples
invariant-samples l = AreAddedTo (λ k. at_volume (mixed_sample (sample_at l.fn.old k) (sample_at l.fn.new k) l.fn.j l.fn.d) l.fn.volume) l.fn.sums l.sums l.at

abbrev pub decreases-samples : goal.decreases-samples
decreases-samples l = l.count - l.at
