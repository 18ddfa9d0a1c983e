use Rattle.std.proofs.Common.{ℕ, ◌+◌, ◌-◌, ◌*◌, ◌≤◌, length, sym, ap, ◌∙◌, arith}
use Rattle.lane_blend.specs.Rows.{pixel_at}
use Rattle.row_render.proofs.Pieces.{put-others, put-there}
use Rattle.row_render.proofs.Transitions.{outside_along, part_long}
use Rattle.row_render.proofs.placing.gather_run.Goals as goal
use borrow.Rule.Slice.PartMut.{put_mid}

pub returns-clause-there : goal.returns-clause-there
returns-clause-there c = λ i lt.
    let row = c.args.row.now in
    let piece = c.gather_row.new.row in
    let run = c.args.run in
    let a = c.from-from.result in
    let b = c.from-to.result in
    let order : a ≤ b = omega (arith, c.requires.order, c.from-from.ensures, c.from-to.ensures) in
    let fits : 4 * b ≤ length row = omega (arith, c.requires.inside, c.from-to.ensures) in
    let long = part_long a b row piece order fits c.gather_row.auto.row in
    let made = c.gather_row.ensures in
    ap (λ (x : ℕ). pixel_at (put_mid (4 * a) (4 * b - 4 * a) row piece) (x + i)) (sym c.from-from.ensures)
    ∙ put-there a b i row piece order fits long (omega (arith, lt, c.from-from.ensures, c.from-to.ensures))
    ∙ made.pixels i (omega (arith, made.len, long, lt, c.from-from.ensures, c.from-to.ensures))

pub returns-clause-others : goal.returns-clause-others
returns-clause-others c = λ x out.
    let row = c.args.row.now in
    let piece = c.gather_row.new.row in
    let run = c.args.run in
    let a = c.from-from.result in
    let b = c.from-to.result in
    let order : a ≤ b = omega (arith, c.requires.order, c.from-from.ensures, c.from-to.ensures) in
    let fits : 4 * b ≤ length row = omega (arith, c.requires.inside, c.from-to.ensures) in
    put-others a b x row piece order fits (part_long a b row piece order fits c.gather_row.auto.row)
    (outside_along x a b run.from run.to c.from-from.ensures c.from-to.ensures out)
