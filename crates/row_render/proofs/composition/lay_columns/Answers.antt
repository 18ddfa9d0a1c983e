use Rattle.std.proofs.Common.{◌*◌, ◌≤◌, length, subst, sym, arith}
use Rattle.lane_blend.specs.Rows.{AreLowered}
use Rattle.row_render.proofs.LaidColumns.{laid_columns, part-lowered, part-put}
use Rattle.row_render.proofs.Pieces.{put-lowered}
use Rattle.row_render.proofs.Transitions.{outside_along, part_long}
use Rattle.row_render.proofs.composition.lay_columns.Goals as goal

pub key_by-requires-clause-lowered : goal.key_by-requires-clause-lowered
key_by-requires-clause-lowered c =
    let a = c.from-from.result in
    let b = c.from-to.result in
    part-lowered c.args.upper.now a b (omega (arith, c.requires.order, c.from-from.ensures, c.from-to.ensures))
    (omega (arith, c.requires.inside, c.requires.upper, c.from-to.ensures)) c.requires.lowered_upper

pub over_row-requires-clause-upper : goal.over_row-requires-clause-upper
over_row-requires-clause-upper c =
    let upper = c.args.upper.now in
    let a = c.from-from.result in
    let b = c.from-to.result in
    let order : a ≤ b = omega (arith, c.requires.order, c.from-from.ensures, c.from-to.ensures) in
    let fits : 4 * b ≤ length upper = omega (arith, c.requires.inside, c.requires.upper, c.from-to.ensures) in
    let own = c.key_by.new.row in
    subst AreLowered (sym (part-put upper own a b order fits (part_long a b upper own order fits c.key_by.auto.row))) c.key_by.ensures.lowered

pub over_row-requires-clause-lower : goal.over_row-requires-clause-lower
over_row-requires-clause-lower c =
    let a = c.from-from.result in
    let b = c.from-to.result in
    part-lowered c.args.row.now a b (omega (arith, c.requires.order, c.from-from.ensures, c.from-to.ensures))
    (omega (arith, c.requires.inside, c.from-to.ensures)) c.requires.lowered_row

pub returns-clause-row : goal.returns-clause-row
returns-clause-row c = λ clear.
    let upper = c.args.upper.now in
    let row = c.args.row.now in
    let a = c.from-from.result in
    let b = c.from-to.result in
    let order : a ≤ b = omega (arith, c.requires.order, c.from-from.ensures, c.from-to.ensures) in
    let fits : 4 * b ≤ length row = omega (arith, c.requires.inside, c.from-to.ensures) in
    let fits_upper : 4 * b ≤ length upper = omega (arith, fits, c.requires.upper) in
    let own = c.key_by.new.row in
    laid_columns a b c.args.keyed upper c.args.keys.now row own _ c.over_row.new.dst order fits c.requires.whole c.key_by.ensures.row
    (part-put upper own a b order fits_upper (part_long a b upper own order fits_upper c.key_by.auto.row)) c.requires.upper c.over_row.ensures.row
    (λ x lt out. clear x lt (outside_along x c.args.from c.args.to a b (sym c.from-from.ensures) (sym c.from-to.ensures) out))

pub returns-clause-lowered : goal.returns-clause-lowered
returns-clause-lowered c =
    let row = c.args.row.now in
    let a = c.from-from.result in
    let b = c.from-to.result in
    let order : a ≤ b = omega (arith, c.requires.order, c.from-from.ensures, c.from-to.ensures) in
    let fits : 4 * b ≤ length row = omega (arith, c.requires.inside, c.from-to.ensures) in
    put-lowered a b row c.over_row.new.dst order fits (part_long a b row c.over_row.new.dst order fits c.over_row.auto.dst) c.requires.lowered_row c.over_row.ensures.lowered
