use Rattle.std.proofs.Common.{◌≡◌, ℕ, ◌+◌, ◌*◌, ◌/◌, ◌<◌, ◌≤◌, List, length, take, drop, sym, ap, ap₂, subst, ◌∙◌, arith}
use Rattle.history_model.specs.pictures.Raster.{scaled_to}
use Rattle.lane_blend.specs.Rows.{IsRow, pixel_at, width_of}
use Rattle.lane_blend.proofs.Rows.{AreLowered-row}
use Rattle.row_render.specs.inner.Sources.{scaled_pixel}
use Rattle.row_render.proofs.Quotients.{scaled_number, scaled_same}
use Rattle.row_render.proofs.Sources.{piece_column, scaled_inside}
use Rattle.row_render.proofs.scaling.scale_columns.Goals as goal

pub gather_row-requires-clause-within : goal.gather_row-requires-clause-within
gather_row-requires-clause-within c = λ i lt.
    let columns = width_of c.args.source.now in
    let first = c.from-then-not-is_empty.ensures in
    let width = c.from-then-not-is_empty-2.ensures in
    let some = c.requires.picture.some in
    let inside = scaled_inside columns c.args.width (c.args.first + i) (omega (arith, some)) (omega (arith, c.requires.fits, lt)) in
    subst (λ (n : ℕ). n < columns)
    (scaled_number columns c.args.width c.args.first i
    ∙ sym (ap₂ (λ (f w : ℕ). ((2 * f + 1) * columns + i * (2 * columns)) / (2 * w)) first width))
    inside

-- columns of a picture of the raster's own width
copied : (source row new : List ℕ) (at n first width : ℕ) → length source / 4 ≡ width → at ≡ 4 * first → n ≡ length row → length row ≡ 4 * width_of row →
    first + width_of row ≤ width → length new ≡ length row → new ≡ take n (drop at source) →
    IsRow (width_of row) (λ i. scaled_pixel source width (first + i)) new
copied source row new at n first width same place count whole fits long is = record {
  len = long ∙ whole;
  pixels = λ i lt.
      (let many : n ≡ 4 * width_of row = count ∙ whole in
      ap (λ (l : List ℕ). pixel_at l i) (is ∙ ap (λ (k : ℕ). take k (drop at source)) many)
      ∙ piece_column source at (width_of row) i (first + i) lt (omega (arith, place))
      ∙ ap (pixel_at source) (sym (ap (λ (k : ℕ). scaled_to k width (first + i)) same ∙ scaled_same width (first + i) (omega (arith, fits, lt)))));
}

pub returns-then-columns-from-clause-row : goal.returns-then-columns-from-clause-row
returns-then-columns-from-clause-row c =
    let row = c.args.row.now in
    copied c.args.source.now row c.copy_from_slice.new.self (4 * c.from-at.result) _ c.args.first c.args.width
    (c.if-columns-from.true ∙ c.from.ensures) (omega (arith, c.from-at.ensures)) (omega arith) (omega (arith, c.requires.whole)) c.requires.fits
    c.copy_from_slice.auto.self c.copy_from_slice.ensures.after

pub returns-then-columns-from-clause-lowered : goal.returns-then-columns-from-clause-lowered
returns-then-columns-from-clause-lowered c =
    let row = c.args.row.now in
    let is = copied c.args.source.now row c.copy_from_slice.new.self (4 * c.from-at.result) _ c.args.first c.args.width
    (c.if-columns-from.true ∙ c.from.ensures) (omega (arith, c.from-at.ensures)) (omega arith) (omega (arith, c.requires.whole)) c.requires.fits
    c.copy_from_slice.auto.self c.copy_from_slice.ensures.after in
    AreLowered-row (width_of row) _ c.copy_from_slice.new.self is
    (λ i lt. c.requires.picture.lowered (scaled_to (width_of c.args.source.now) c.args.width (c.args.first + i)))
