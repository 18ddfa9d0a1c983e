use Rattle.std.proofs.Common.{sym, subst}
use Rattle.std.specs.Prelude.{ℤ}
use Rattle.play_sound.specs.inner.Ranges.{IsNear}
use Rattle.play_sound.proofs.Layers.{played_is, played_near, product_fits}
use Rattle.play_sound.proofs.sample.played.Goals as goal

pub overflow_mul-result : goal.overflow_mul-result
overflow_mul-result c = product_fits c.args.sample c.args.volume c.requires.sample c.requires.volume.0 c.requires.volume.1

pub returns-clause-value : goal.returns-clause-value
returns-clause-value c = played_is c.args.sample c.args.volume c.requires.sample c.requires.volume.0 c.requires.volume.1

pub returns-clause-near : goal.returns-clause-near
returns-clause-near c =
    subst (λ (z : ℤ). IsNear 32768000 z)
    (sym (played_is c.args.sample c.args.volume c.requires.sample c.requires.volume.0 c.requires.volume.1))
    (played_near c.args.sample c.args.volume c.requires.sample c.requires.volume.0 c.requires.volume.1)
