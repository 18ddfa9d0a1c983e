use Rattle.std.proofs.Common.{ℕ, ◌+◌, ◌/◌, sym, ap, subst}
use Rattle.play_transitions.specs.Column.{column_view}
use Rattle.play_transitions.specs.Runs.{raised}
use Rattle.play_transitions.specs.declared.columns.Column.{Column}
use Rattle.pixel_math.specs.Arithmetic.{mix}
use Rattle.history_model.specs.pictures.Raster.{still_pixel}
use Rattle.lane_blend.specs.Rows.{IsRow, width_of}
use Rattle.lane_blend.proofs.Pieces.{IsRow-mix}
use Rattle.row_render.specs.inner.Rasters.{moving_pixel}
use Rattle.row_render.proofs.raster.moving_row.Goals as goal

pub returns-in-Old-clause-row : goal.returns-in-Old-clause-row
returns-in-Old-clause-row c = λ pictures are.
    subst
    (λ (column : Column). IsRow (width_of c.args.row.now) (λ i. moving_pixel pictures c.args.view.now.size c.args.layer.now c.args.y (raised (column_view column) i)) c.still_columns.new.row)
    (sym c.in-Old.is) (c.still_columns.ensures.row pictures are)

pub returns-in-New-clause-row : goal.returns-in-New-clause-row
returns-in-New-clause-row c = λ pictures are.
    subst
    (λ (column : Column). IsRow (width_of c.args.row.now) (λ i. moving_pixel pictures c.args.view.now.size c.args.layer.now c.args.y (raised (column_view column) i)) c.still_columns-in-New.new.row)
    (sym c.in-New.is) (c.still_columns-in-New.ensures.row pictures are)

pub returns-in-Both-clause-row : goal.returns-in-Both-clause-row
returns-in-Both-clause-row c = λ pictures are.
    let size = c.args.view.now.size in
    let layer = c.args.layer.now in
    let y = c.args.y in
    let width = width_of c.args.row.now in
    let first = c.in-Both.first in
    let old = λ (i : ℕ). still_pixel pictures size layer.old (first + i) y in
    let new = λ (i : ℕ). still_pixel pictures size layer.still (first + i) y in
    let below : IsRow width new c.still_columns-in-Both-2.new.row =
    subst (λ (n : ℕ). IsRow n new c.still_columns-in-Both-2.new.row) (ap (λ (n : ℕ). n / 4) c.requires.other) (c.still_columns-in-Both-2.ensures.row pictures are) in
    let mixed = IsRow-mix width old new layer.step c.duration.result c.still_columns-in-Both.new.row c.still_columns-in-Both-2.new.row c.mix_row.new.old_in_out
    (c.still_columns-in-Both.ensures.row pictures are) below c.mix_row.ensures.row in
    subst
    (λ (column : Column). IsRow width (λ i. moving_pixel pictures size layer y (raised (column_view column) i)) c.mix_row.new.old_in_out)
    (sym c.in-Both.is)
    (subst (λ (d : ℕ). IsRow width (λ i. mix (old i) (new i) layer.step d) c.mix_row.new.old_in_out) c.duration.ensures.value mixed)
