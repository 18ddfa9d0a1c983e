use Rattle.std.proofs.Common.{◌≡◌, ℕ, ◌+◌, ◌-◌, ◌*◌, ◌/◌, ◌≤◌, ◌++◌, length, take, drop, length-drop, length-take-le, sym, ap, ◌∙◌, arith}
use Rattle.play_scene.specs.Frames.{with_piece}
use Rattle.play_sound.specs.Sounds.{bytes_of_samples, mixed_sample, sounds_of}
use Rattle.play_sound.proofs.Bytes.{bytes-all, put_part, row_put, same_bytes}
use Rattle.play_sound.proofs.Stills.{same_sample}
use Rattle.play_sound.proofs.mix.mix_sound.Goals as goal

pub rows-preserved : goal.rows-preserved
rows-preserved c =
    let sample = mixed_sample (sounds_of c.args.prev.now c.args.media.now) c.args.scene.now in
    let first = c.rows.first in
    let end = c.min-end.result in
    let out = c.args.out.now in
    let row = c.mix_row.new.row in
    let count = end - first in
    let more : first ≤ end = omega (arith, c.min-end.ensures, c.rows-test.true) in
    let within : end ≤ c.from-pairs.result = omega (arith, c.min-end.ensures) in
    let rest = length-drop (4 * first) c.rows.out in
    let old_long : length (take (4 * end - 4 * first) (drop (4 * first) c.rows.out)) ≡ 4 * end - 4 * first =
    length-take-le (4 * end - 4 * first) (drop (4 * first) c.rows.out)
    (omega (arith, rest, more, within, c.rows.auto.out, c.requires.room, c.from-pairs.ensures)) in
    let long : length row ≡ 4 * end - 4 * first = c.mix_row.auto.row ∙ old_long in
    let quarter : (4 * end - 4 * first) / 4 ≡ count = omega (arith, more) in
    let is : row ≡ bytes_of_samples count (λ pair side. sample (first + pair) side) =
    c.mix_row.ensures
    ∙ ap (λ (n : ℕ). bytes_of_samples n (λ pair side. sample (first + pair) side)) (ap (λ (n : ℕ). n / 4) old_long ∙ quarter) in
    let last : first + count ≡ end = omega (arith, more) in
    record {
      within = within;
      written =
          put_part (4 * first) (4 * end - 4 * first) c.rows.out row long
          ∙ ap (with_piece (4 * first) row) c.rows.invariant.written
          ∙ row_put sample first count out row is
          ∙ ap (λ (n : ℕ). bytes_of_samples n sample ++ drop (4 * n) out) last;
    }

pub returns : goal.returns
returns c = λ sounds are.
    let frames = c.args.prev.now in
    let entries = c.args.media.now in
    let layers = c.args.scene.now in
    let pairs = c.args.size.pairs in
    let sample = mixed_sample (sounds_of frames entries) layers in
    let within = c.rows.invariant.within in
    let last : c.rows.first ≡ pairs = omega (arith, within, c.from-pairs.ensures, c.rows-test.false) in
    c.rows.invariant.written
    ∙ ap (λ (n : ℕ). bytes_of_samples n sample ++ drop (4 * n) c.args.out.now) last
    ∙ bytes-all sample pairs c.args.out.now c.requires.room
    ∙ sym (same_bytes (mixed_sample sounds layers) sample pairs
    (λ pair side small. same_sample sounds frames entries layers pair side are small c.requires.names))
