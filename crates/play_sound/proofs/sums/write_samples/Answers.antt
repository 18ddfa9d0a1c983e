use Rattle.std.proofs.Common.{◌≡◌, ℕ, ◌+◌, ◌*◌, ◌<◌, ◌++◌, drop, length, ap, ◌∙◌, arith}
use Rattle.std.specs.Prelude.{ℤ, FitsSigned}
use Rattle.std.specs.Int.{w16, w64}
use Rattle.std.proofs.lemmas.Int.{to_z-of_z}
use Rattle.history_model.specs.pictures.Sound.{held_to_sample}
use Rattle.play_types.specs.Setting.{number_at}
use Rattle.history_model.specs.scripts.Output.{sample_bytes}
use Rattle.play_scene.specs.Frames.{with_piece}
use Rattle.play_sound.specs.Sounds.{bytes_of_samples}
use Rattle.play_sound.proofs.Adding.{sum_fits}
use Rattle.play_sound.proofs.Bytes.{pair_put}
use Rattle.play_sound.proofs.sums.write_samples.Goals as goal

pub loop-pair-preserved : goal.loop-pair-preserved
loop-pair-preserved c =
    let pair = c.loop-pair.pair in
    let sums = c.args.sums.now in
    let sample : ℕ → ℕ → ℤ = λ pair side. held_to_sample (number_at sums (2 * pair + side)) in
    let first : 2 * pair ≡ 2 * pair + 0 = omega arith in
    let left_in : 2 * pair < length sums = omega arith in
    let right_in : 2 * pair + 1 < length sums = omega arith in
    let left_fits : FitsSigned w16 c.held.result = record { sfits = c.held.type_inv } in
    let right_fits : FitsSigned w16 c.held-in-loop-pair.result = record { sfits = c.held-in-loop-pair.type_inv } in
    let left_is = to_z-of_z w16 c.held.result left_fits ∙ c.held.ensures
    ∙ ap held_to_sample (to_z-of_z w64 (number_at sums (2 * pair)) (sum_fits 64 sums (2 * pair) (omega arith) c.requires.sums left_in))
    ∙ ap (λ (k : ℕ). held_to_sample (number_at sums k)) first in
    let right_is = to_z-of_z w16 c.held-in-loop-pair.result right_fits ∙ c.held-in-loop-pair.ensures
    ∙ ap held_to_sample (to_z-of_z w64 (number_at sums (2 * pair + 1)) (sum_fits 64 sums (2 * pair + 1) (omega arith) c.requires.sums right_in)) in
    let left : c.put_sample.new.out
    ≡ with_piece (4 * pair) (sample_bytes (sample pair 0)) (bytes_of_samples pair sample ++ drop (4 * pair) c.args.row.now) =
    c.put_sample.ensures
    ∙ (λ i. with_piece (4 * pair) (sample_bytes (left_is i)) (c.loop-pair.invariant i)) in
    c.put_sample-in-loop-pair.ensures
    ∙ (λ i. with_piece (4 * pair + 2) (sample_bytes (right_is i)) (left i))
    ∙ pair_put sample pair c.args.row.now
