use Rattle.std.proofs.Common.{ℕ, ◌+◌, ◌*◌, ◌/◌, ◌<◌, sym, ap, subst, ◌∙◌}
use Rattle.lane_blend.specs.Rows.{pixel_at}
use Rattle.row_render.proofs.Pieces.{written_more}
use Rattle.row_render.proofs.Quotients.{quotient_is, quotient_passes, quotient_stays}
use Rattle.row_render.proofs.scaling.gather_row.Goals as goal
use Rattle.row_render.proofs.scaling.gather_row.Goals.{then-rest-divisor, else-rest-divisor}

pub columns-preserved : goal.columns-preserved
columns-preserved c =
    let source = c.args.source.now in
    let x = c.columns.x in
    let so_far = c.columns.invariant in
    let column = quotient_is c.columns.column c.columns.rest c.args.divisor (c.args.number + x * c.args.step) so_far.1 so_far.2 in
    let written = written_more (λ (i : ℕ). pixel_at source ((c.args.number + i * c.args.step) / c.args.divisor)) c.columns.row c.copy_pixel.new.row x so_far.0
    (c.copy_pixel.ensures.there ∙ ap (pixel_at source) column)
    (λ k other. c.copy_pixel.ensures.others k other) in
    elim c.if-rest-divisor.branch [
      | then-rest-divisor w ↦
          (let next = quotient_passes c.columns.column c.columns.rest c.args.divisor c.args.number c.args.step x c.requires.some so_far.1 so_far.2 w.if-rest-divisor.true in (
            written,
            ap (λ (n : ℕ). n * c.args.divisor + c.if-rest-divisor.rest) w.column-is
                ∙ ap (λ (n : ℕ). (c.columns.column + c.args.step / c.args.divisor + 1) * c.args.divisor + n) w.rest-is ∙ next.0,
            subst (λ (n : ℕ). n < c.args.divisor) (sym w.rest-is) next.1,
          ))
      | else-rest-divisor w ↦
          (let next = quotient_stays c.columns.column c.columns.rest c.args.divisor c.args.number c.args.step x c.requires.some so_far.1 w.if-rest-divisor.false in (
            written,
            ap (λ (n : ℕ). n * c.args.divisor + c.if-rest-divisor.rest) w.column-is
                ∙ ap (λ (n : ℕ). (c.columns.column + c.args.step / c.args.divisor) * c.args.divisor + n) w.rest-is ∙ next.0,
            subst (λ (n : ℕ). n < c.args.divisor) (sym w.rest-is) next.1,
          ))
    ]
