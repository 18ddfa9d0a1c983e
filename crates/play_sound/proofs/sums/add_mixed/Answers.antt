use Rattle.std.proofs.Common.{◌*◌, ◌<◌, ◌≤◌, length, subst, ap, ap₂, ◌∙◌, arith}
use Rattle.std.specs.Int.{w64}
use Rattle.std.specs.Prelude.{ℤ, FitsSigned}
use Rattle.std.proofs.lemmas.Int.{to_z-of_z}
use Rattle.history_model.specs.pictures.Sound.{mixed_sample}
use Rattle.play_types.specs.Setting.{number_at}
use Rattle.play_sound.specs.inner.Rows.{at_volume, sample_at}
use Rattle.play_sound.proofs.Mean.{kept}
use Rattle.play_sound.proofs.Silence.{past_end, silent_at-volume, silent_mean}
use Rattle.play_sound.proofs.Adding.{AreAddedTo, all_added, new_sum_fits, one_more, total_is}
use Rattle.play_sound.proofs.sums.add_mixed.Goals as goal

pub samples-preserved : goal.samples-preserved
samples-preserved c =
    let old = c.args.sums.now in
    let at = c.samples.at in
    let volume = kept c.args.volume in
    let inside : at < length old = omega arith in
    let old_fits : FitsSigned w64 c.sample_or_silence.result = record { sfits = c.sample_or_silence.type_inv } in
    let new_fits : FitsSigned w64 c.sample_or_silence-in-samples.result = record { sfits = c.sample_or_silence-in-samples.type_inv } in
    let mean_fits : FitsSigned w64 c.mean-mean.result = record { sfits = c.mean-mean.type_inv } in
    let total = total_is (number_at c.samples.sums at) c.played.result c.total.result
    (new_sum_fits _ old c.samples.sums at c.samples.invariant c.requires.sums inside)
    (record { sfits = c.played.type_inv }) (record { sfits = c.total.type_inv }) c.total.ensures in
    let mean =
    to_z-of_z w64 c.mean-mean.result mean_fits
    ∙ c.mean-mean.ensures.value
    ∙ ap₂ (λ (a b : ℤ). mixed_sample a b c.args.j c.args.d)
    (to_z-of_z w64 c.sample_or_silence.result old_fits ∙ c.sample_or_silence.ensures.value)
    (to_z-of_z w64 c.sample_or_silence-in-samples.result new_fits ∙ c.sample_or_silence-in-samples.ensures.value) in
    let one = c.played.ensures.value ∙ ap (λ (s : ℤ). at_volume s volume) mean in
    one_more (λ k. at_volume (mixed_sample (sample_at c.args.old.now k) (sample_at c.args.new.now k) c.args.j c.args.d) volume)
    old c.samples.sums at _ c.played.result c.samples.invariant inside total one c.played.ensures.near

pub returns : goal.returns
returns c =
    let sums = c.args.sums.now in
    let old = c.args.old.now in
    let new = c.args.new.now in
    let j = c.args.j in
    let d = c.args.d in
    let volume = c.args.volume in
    all_added (λ k. at_volume (mixed_sample (sample_at old k) (sample_at new k) j d) volume) sums c.samples.sums c.samples.at
    (subst (λ (v : ℤ). AreAddedTo (λ k. at_volume (mixed_sample (sample_at old k) (sample_at new k) j d) v) sums c.samples.sums c.samples.at)
    (to_z-of_z w64 volume c.ranges.volume) c.samples.invariant)
    (λ k from lt.
    let old_past : length old ≤ 2 * k = omega (arith, from, lt, c.requires.old, c.max.ensures, c.min-count.ensures, c.samples-test.false) in
    let new_past : length new ≤ 2 * k = omega (arith, from, lt, c.requires.new, c.max.ensures, c.min-count.ensures, c.samples-test.false) in
    ap₂ (λ (a b : ℤ). at_volume (mixed_sample a b j d) volume) (past_end old k old_past) (past_end new k new_past)
    ∙ ap (λ (s : ℤ). at_volume s volume) (silent_mean j d c.requires.step)
    ∙ silent_at-volume volume)
