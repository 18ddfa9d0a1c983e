use Rattle.std.proofs.Common.{rules, ◌≡◌, ◌≤◌, ◌∙◌, ap, ℤ, pos, ◌-ℤ◌, ◌*ℤ◌, to_z, of_z, SFits, w64, arith, nat_abs, lit≤, lit<}
use Rattle.std.proofs.lemmas.Int.{ints, to_z-of_z, fits_signed_mul}
use Rattle.history_model.specs.pictures.Placing.{floor_div, twice_middle, twice_part}
use Rattle.play_scene.proofs.placing.column_at.Goals as goal

pub returns : goal.returns
returns c =
    let edge = c.args.edge in
    let scale = c.args.scale in
    let middle = c.twice_middle.result in
    let part = c.twice_part.result in
    let edge_is : to_z w64 (of_z w64 edge) ≡ edge = to_z-of_z w64 edge c.ranges.edge in
    let scale_is : to_z w64 (of_z w64 scale) ≡ scale = to_z-of_z w64 scale c.ranges.scale in
    let middle_fits : SFits w64 middle = search rules in
    let part_fits : SFits w64 part = search rules in
    let result_fits : SFits w64 c.floor_div.result = search rules in
    let number_fits : SFits w64 (middle -ℤ part) = search rules in
    let small : nat_abs scale ≤ 1000000000 = omega (arith, ints) in
    let divisor_fits : SFits w64 (pos 2 *ℤ scale) = fits_signed_mul w64 (pos 2) scale 2 1000000000 (lit≤ tt) small (lit< tt) in
    let number_is : to_z w64 (of_z w64 (to_z w64 (of_z w64 middle) -ℤ to_z w64 (of_z w64 part))) ≡ twice_middle c.args.x -ℤ twice_part c.args.width edge =
    (λ i. to_z w64 (of_z w64 (to_z-of_z w64 middle middle_fits i -ℤ to_z-of_z w64 part part_fits i)))
    ∙ to_z-of_z w64 (middle -ℤ part) number_fits
    ∙ (λ i. c.twice_middle.ensures.value i -ℤ c.twice_part.ensures.value i)
    ∙ ap (λ (e : ℤ). twice_middle c.args.x -ℤ twice_part c.args.width e) edge_is in
    let divisor_is : to_z w64 (of_z w64 (pos 2 *ℤ to_z w64 (of_z w64 scale))) ≡ pos 2 *ℤ scale =
    ap (λ (s : ℤ). to_z w64 (of_z w64 (pos 2 *ℤ s))) scale_is ∙ to_z-of_z w64 (pos 2 *ℤ scale) divisor_fits in
    to_z-of_z w64 c.floor_div.result result_fits ∙ c.floor_div.ensures ∙ (λ i. floor_div (number_is i) (divisor_is i))
