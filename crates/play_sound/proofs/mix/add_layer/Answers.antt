use Rattle.std.proofs.Common.{◌<◌, ◌≤◌, sym, ap₂, ◌∙◌, arith}
use Rattle.std.specs.Prelude.{ℤ}
use Rattle.history_model.specs.pictures.Sound.{layer_sample, mixed_sample}
use Rattle.play_sound.specs.Sounds.{sounds_of}
use Rattle.play_sound.specs.inner.Rows.{at_volume, sample_at, still_at}
use Rattle.play_sound.proofs.Layers.{sample_over, sample_running, volume_is}
use Rattle.play_sound.proofs.Mean.{kept}
use Rattle.play_sound.proofs.Rows.{same_added}
use Rattle.play_sound.proofs.mix.add_layer.Goals as goal

pub returns-then-drawn-duration : goal.returns-then-drawn-duration
returns-then-drawn-duration c =
    let layer = c.args.drawn.now in
    let sounds = sounds_of c.args.prev.now c.args.media.now in
    let over : layer.trans.duration ≤ layer.step = omega (arith, c.if-drawn-duration.true, c.duration-duration.ensures.value) in
    let volume = volume_is layer.volume c.requires.volume.0 c.requires.volume.1 in
    same_added (λ i. at_volume (sample_at c.still_sound-new.result.now i) (kept layer.volume)) (λ i. layer_sample (still_at sounds c.args.first i) layer)
    c.args.sums.now c.add_samples.new.sums
    (λ i. ap₂ at_volume (c.still_sound-new.ensures.samples i) volume
    ∙ sym (sample_over (still_at sounds c.args.first i) layer over))
    c.add_samples.ensures

pub returns : goal.returns
returns c =
    let layer = c.args.drawn.now in
    let sounds = sounds_of c.args.prev.now c.args.media.now in
    let first = c.args.first in
    let runs : layer.step < layer.trans.duration = omega (arith, c.if-drawn-duration.false, c.duration-duration.ensures.value) in
    let volume = volume_is layer.volume c.requires.volume.0 c.requires.volume.1 in
    let duration = c.duration-duration.ensures.value in
    same_added
    (λ i. at_volume (mixed_sample (sample_at c.still_sound-old.result.now i) (sample_at c.still_sound-new.result.now i) layer.step c.duration-duration.result) (kept layer.volume))
    (λ i. layer_sample (still_at sounds first i) layer)
    c.args.sums.now c.add_mixed.new.sums
    (λ i.
    (λ k. at_volume (mixed_sample (sample_at c.still_sound-old.result.now i) (sample_at c.still_sound-new.result.now i) layer.step (duration k)) (volume k))
    ∙ ap₂ (λ (a b : ℤ). at_volume (mixed_sample a b layer.step layer.trans.duration) layer.volume)
    (c.still_sound-old.ensures.samples i) (c.still_sound-new.ensures.samples i)
    ∙ sym (sample_running (still_at sounds first i) layer runs))
    c.add_mixed.ensures
