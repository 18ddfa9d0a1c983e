use Rattle.std.proofs.Common.{◌≡◌, ◌+◌, ◌*◌, ◌/◌, ◌<◌, List, length, get_or, take, sym, subst, ap, ◌∙◌, arith}
use Rattle.std.proofs.lemmas.List.{take_all, take_more}
use Rattle.play_types.specs.Setting.{number_at}
use Rattle.play_types.specs.declared.drawn.Drawn.{Drawn}
use Rattle.history_model.specs.pictures.Sound.{held_to_sample, layer_sample, sample_sum, still_sample}
use Rattle.play_sound.specs.Sounds.{mixed_sample, sounds_of}
use Rattle.play_sound.specs.inner.Rows.{AreAdded, still_at}
use Rattle.play_sound.proofs.Bytes.{same_bytes_below}
use Rattle.play_sound.proofs.Rows.{AreLayerSums, layer_more, no_layers, sum_by_side}
use Rattle.play_sound.proofs.mix.mix_row.Goals as goal

pub loop-drawn-init : goal.loop-drawn-init
loop-drawn-init c = no_layers (sounds_of c.args.prev.now c.args.media.now) c.args.first

pub loop-drawn-preserved : goal.loop-drawn-preserved
loop-drawn-preserved c =
    let items = c.drawn-drawn-items.result.now in
    let n = c.loop-drawn.drawn-index in
    let item = c.drawn-item.result in
    let first = c.args.first in
    let sounds = sounds_of c.args.prev.now c.args.media.now in
    let old = c.loop-drawn.sums in
    let new = c.add_layer.new.sums in
    subst (λ (layers : List Drawn). AreLayerSums sounds first layers (n + 1) new) (sym (take_more items n item c.loop-drawn-test.true))
    (layer_more sounds first (take n items) (get_or items n item) n old new c.loop-drawn.invariant
    (subst (λ (layer : Drawn). AreAdded (λ i. layer_sample (still_at sounds first i) layer) old new) c.drawn-item.is c.add_layer.ensures))

pub returns : goal.returns
returns c =
    let items = c.drawn-drawn-items.result.now in
    let n = c.loop-drawn.drawn-index in
    let first = c.args.first in
    let sums = c.loop-drawn.sums in
    let sounds = sounds_of c.args.prev.now c.args.media.now in
    let all : take n items ≡ c.args.scene.now = take_all n items c.loop-drawn-test.false ∙ c.drawn-drawn-items.ensures.value in
    c.write_samples.ensures
    ∙ same_bytes_below (λ pair side. held_to_sample (number_at sums (2 * pair + side))) (λ pair side. mixed_sample sounds c.args.scene.now (first + pair) side)
    (length c.args.row.now / 4)
    (λ pair side below small.
    let inside : 2 * pair + side < 128 = omega (arith, below, small, c.requires.few) in
    ap held_to_sample
    (sum_by_side sounds first pair side (take n items) n sums c.loop-drawn.invariant inside small
    ∙ ap (sample_sum (still_sample sounds.setup sounds.samples (first + pair) side)) all))
