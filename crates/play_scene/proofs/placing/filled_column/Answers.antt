use Rattle.std.proofs.Common.{rules, ◌≢◌, ◌∙◌, ap, sym, ℤ, pos, ◌<ℤ◌, ◌≤ℤ◌, SFits, w64, arith, nat_abs}
use Rattle.std.specs.Prelude.{Some}
use Rattle.std.proofs.lemmas.Int.{ints, to_z-of_z}
use Rattle.play_scene.proofs.Fills.{filled-at, column-below, column-beyond, column-inside}
use Rattle.play_scene.proofs.placing.filled_column.Goals as goal
use Rattle.play_scene.proofs.placing.filled_column.Goals.{then-column-lt0-via-then-column-lt0, then-column-lt0-via-else-column-lt0+then-column-from}

pub returns-then-column-lt0-clause-value : goal.returns-then-column-lt0-clause-value
returns-then-column-lt0-clause-value c =
    let width = c.args.width in
    let column = c.column_at-column.result in
    let scale = c.args.scale in
    let some : scale ≢ pos 0 = grind (arith, ints) in
    let shown = filled-at width c.args.edge scale c.args.x column c.ranges.edge c.ranges.scale some c.column_at-column.ensures in
    elim c.then-column-lt0.branch [
      | then-column-lt0-via-then-column-lt0 w ↦ (let low : column <ℤ pos 0 = grind (arith, ints) in
          sym (shown ∙ column-below width column low))
      | then-column-lt0-via-else-column-lt0+then-column-from w ↦ (let high : pos width ≤ℤ column = grind (arith, ints) in
          sym (shown ∙ column-beyond width column high))
    ]

pub returns-clause-value : goal.returns-clause-value
returns-clause-value c =
    let width = c.args.width in
    let column = c.column_at-column.result in
    let scale = c.args.scale in
    let some : scale ≢ pos 0 = grind (arith, ints) in
    let shown = filled-at width c.args.edge scale c.args.x column c.ranges.edge c.ranges.scale some c.column_at-column.ensures in
    let low : pos 0 ≤ℤ column = grind (arith, ints) in
    let high : column <ℤ pos width = grind (arith, ints) in
    let fits : SFits w64 column = search rules in
    ap (λ (z : ℤ). Some (nat_abs z)) (to_z-of_z w64 column fits)
    ∙ sym (shown ∙ column-inside width column low high)
