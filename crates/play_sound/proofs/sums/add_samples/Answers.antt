use Rattle.std.proofs.Common.{◌*◌, ◌<◌, ◌≤◌, length, subst, ap, ◌∙◌, arith}
use Rattle.std.specs.Int.{w64}
use Rattle.std.specs.Prelude.{ℤ, FitsSigned}
use Rattle.std.proofs.lemmas.Int.{to_z-of_z}
use Rattle.play_types.specs.Setting.{number_at}
use Rattle.play_sound.specs.inner.Rows.{at_volume, sample_at}
use Rattle.play_sound.proofs.Mean.{kept}
use Rattle.play_sound.proofs.Silence.{past_end, silent_at-volume}
use Rattle.play_sound.proofs.Adding.{AreAddedTo, all_added, new_sum_fits, one_more, total_is}
use Rattle.play_sound.proofs.sums.add_samples.Goals as goal

pub samples-preserved : goal.samples-preserved
samples-preserved c =
    let old = c.args.sums.now in
    let at = c.samples.at in
    let volume = kept c.args.volume in
    let inside : at < length old = omega arith in
    let sample_fits : FitsSigned w64 c.sample_at.result = record { sfits = c.sample_at.type_inv } in
    let total = total_is (number_at c.samples.sums at) c.played.result c.total.result
    (new_sum_fits _ old c.samples.sums at c.samples.invariant c.requires.sums inside)
    (record { sfits = c.played.type_inv }) (record { sfits = c.total.type_inv }) c.total.ensures in
    let one = c.played.ensures.value ∙ ap (λ (s : ℤ). at_volume s volume) (to_z-of_z w64 c.sample_at.result sample_fits ∙ c.sample_at.ensures.value) in
    one_more (λ k. at_volume (sample_at c.args.sound.now k) volume) old c.samples.sums at _ c.played.result c.samples.invariant inside
    total one c.played.ensures.near

pub returns : goal.returns
returns c =
    let old = c.args.sums.now in
    let sound = c.args.sound.now in
    let volume = c.args.volume in
    all_added (λ k. at_volume (sample_at sound k) volume) old c.samples.sums c.samples.at
    (subst (λ (v : ℤ). AreAddedTo (λ k. at_volume (sample_at sound k) v) old c.samples.sums c.samples.at)
    (to_z-of_z w64 volume c.ranges.volume) c.samples.invariant)
    (λ k from lt.
    let past : length sound ≤ 2 * k = omega (arith, from, lt, c.requires.whole, c.min-count.ensures, c.samples-test.false) in
    ap (λ (s : ℤ). at_volume s volume) (past_end sound k past) ∙ silent_at-volume volume)
