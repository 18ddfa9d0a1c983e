use Rattle.std.proofs.Common.{rules, ◌≡◌, ◌∙◌, ap, ◌+ℤ◌, to_z, of_z, SFits, w64}
use Rattle.std.proofs.lemmas.Int.{to_z-of_z}
use Rattle.history_model.specs.pictures.Placing.{twice_part}
use Rattle.play_scene.proofs.Fills.{kept-test}
use Rattle.play_scene.proofs.placing.is_kept.Goals as goal

pub returns-then-start-middle : goal.returns-then-start-middle
returns-then-start-middle c =
    let width = c.args.width in
    let edge = c.args.edge in
    let extent = c.args.extent in
    let middle_fits : SFits w64 c.twice_middle-middle.result = search rules in
    let start_fits : SFits w64 c.twice_part-start.result = search rules in
    let end_fits : SFits w64 c.twice_part-end.result = search rules in
    let edge_is : to_z w64 (of_z w64 edge) ≡ edge = to_z-of_z w64 edge c.ranges.edge in
    let extent_is : to_z w64 (of_z w64 extent) ≡ extent = to_z-of_z w64 extent c.ranges.extent in
    let sum_fits : SFits w64 (edge +ℤ extent) = search rules in
    let sum_is : to_z w64 (of_z w64 (to_z w64 (of_z w64 edge) +ℤ to_z w64 (of_z w64 extent))) ≡ edge +ℤ extent =
    (λ i. to_z w64 (of_z w64 (edge_is i +ℤ extent_is i))) ∙ to_z-of_z w64 (edge +ℤ extent) sum_fits in
    kept-test width edge extent c.args.x _ _ _
    (to_z-of_z w64 c.twice_part-start.result start_fits ∙ c.twice_part-start.ensures.value ∙ ap (twice_part width) edge_is)
    (to_z-of_z w64 c.twice_middle-middle.result middle_fits ∙ c.twice_middle-middle.ensures.value)
    (to_z-of_z w64 c.twice_part-end.result end_fits ∙ c.twice_part-end.ensures.value ∙ ap (twice_part width) sum_is)
    c.if-start-middle.true
