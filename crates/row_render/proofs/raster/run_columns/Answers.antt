use Rattle.std.proofs.Common.{◌≡◌, ℕ, ◌+◌, ◌-◌, ◌*◌, ◌≤◌, length, sym, ap, ◌∙◌, arith}
use Rattle.lane_blend.specs.Rows.{pixel_at}
use Rattle.play_transitions.specs.Runs.{run_column}
use Rattle.play_transitions.specs.declared.row.Run.{Run}
use Rattle.row_render.specs.inner.Rasters.{IsOutside, IsRunOf, moving_pixel}
use Rattle.row_render.proofs.Pieces.{put-lowered, put-others, put-there}
use Rattle.row_render.proofs.Transitions.{ShowsRun, only, only-back, outside_along, part_long}
use Rattle.row_render.proofs.raster.run_columns.Goals as goal
use borrow.Rule.Slice.PartMut.{put_mid}

pub returns-in-Some-clause-there : goal.returns-in-Some-clause-there
returns-in-Some-clause-there c = λ pictures are.
    let row = c.args.row.now in
    let piece = c.moving_row.new.row in
    let run = c.in-Some.run' in
    let a = c.from.result in
    let b = c.from-in-Some.result in
    let is = only (IsRunOf c.args.view.now.size.width) c.args.run run c.in-Some.is c.requires.run in
    let order : a ≤ b = omega (arith, is.order, c.from.ensures, c.from-in-Some.ensures) in
    let fits : 4 * b ≤ length row = omega (arith, is.inside, c.from-in-Some.ensures, c.requires.row) in
    let long = part_long a b row piece order fits c.moving_row.auto.row in
    let made = c.moving_row.ensures.row pictures are in
    let new = put_mid (4 * a) (4 * b - 4 * a) row piece in
    only-back (ShowsRun new (λ (x : ℕ) (run : Run). moving_pixel pictures c.args.view.now.size c.args.layer.now c.args.y (run_column run x))) c.args.run run c.in-Some.is
    (λ x low high.
    let place : a + (x - run.from) ≡ x = omega (arith, low, c.from.ensures) in
    ap (pixel_at (put_mid (4 * a) (4 * b - 4 * a) row piece)) (sym place)
    ∙ put-there a b (x - run.from) row piece order fits long (omega (arith, place, high, c.from-in-Some.ensures))
    ∙ made.pixels (x - run.from) (omega (arith, made.len, long, low, high, c.from.ensures, c.from-in-Some.ensures)))

pub returns-in-Some-clause-others : goal.returns-in-Some-clause-others
returns-in-Some-clause-others c = λ x out.
    let row = c.args.row.now in
    let piece = c.moving_row.new.row in
    let run = c.in-Some.run' in
    let a = c.from.result in
    let b = c.from-in-Some.result in
    let is = only (IsRunOf c.args.view.now.size.width) c.args.run run c.in-Some.is c.requires.run in
    let order : a ≤ b = omega (arith, is.order, c.from.ensures, c.from-in-Some.ensures) in
    let fits : 4 * b ≤ length row = omega (arith, is.inside, c.from-in-Some.ensures, c.requires.row) in
    put-others a b x row piece order fits (part_long a b row piece order fits c.moving_row.auto.row)
    (outside_along x a b run.from run.to c.from.ensures c.from-in-Some.ensures (only (IsOutside x) c.args.run run c.in-Some.is out))

pub returns-in-Some-clause-lowered : goal.returns-in-Some-clause-lowered
returns-in-Some-clause-lowered c =
    let row = c.args.row.now in
    let piece = c.moving_row.new.row in
    let run = c.in-Some.run' in
    let a = c.from.result in
    let b = c.from-in-Some.result in
    let is = only (IsRunOf c.args.view.now.size.width) c.args.run run c.in-Some.is c.requires.run in
    let order : a ≤ b = omega (arith, is.order, c.from.ensures, c.from-in-Some.ensures) in
    let fits : 4 * b ≤ length row = omega (arith, is.inside, c.from-in-Some.ensures, c.requires.row) in
    put-lowered a b row piece order fits (part_long a b row piece order fits c.moving_row.auto.row) c.requires.lowered c.moving_row.ensures.lowered
