use Rattle.std.proofs.Common.{ℕ, ◌+◌, ◌-◌, ◌*◌, List, ◌++◌, take, drop, ap, ◌∙◌}
use Rattle.frame_bitmap.specs.inner.Parts.{column_of}
use Rattle.frame_bitmap.proofs.Pieces.{pieces_none, pieces_push, part}
use Rattle.frame_bitmap.proofs.scaling.push_row.Goals as goal

pub loop-x-init : goal.loop-x-init
loop-x-init c = pieces_none (column_of c.args.width c.args.columns c.args.row.now) c.args.out.now.items

pub loop-x-preserved : goal.loop-x-preserved
loop-x-preserved c =
    let at : ℕ = 4 * c.nearest-column.result in
    let piece : List ℕ = take (at + 4 - at) (drop at c.args.row.now) in
    c.in_ok-extend_from_slice.ensures.items
    ∙ ap (λ (bytes : List ℕ). bytes ++ piece) c.loop-x.invariant
    ∙ pieces_push (column_of c.args.width c.args.columns c.args.row.now) c.args.out.now.items c.loop-x.x piece
    (part at 4 c.args.row.now ∙ ap (λ (column : ℕ). take 4 (drop (4 * column) c.args.row.now)) c.nearest-column.ensures)
