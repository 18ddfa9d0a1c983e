use Rattle.std.proofs.Common.{ℕ, ◌+◌, ◌-◌, ◌*◌, List, ◌++◌, take, drop, ap, ◌∙◌}
use Rattle.frame_bitmap.specs.inner.Parts.{column_of, pieces, shown_row}
use Rattle.frame_bitmap.proofs.Pieces.{pieces_none, pieces_push, part}
use Rattle.frame_bitmap.proofs.scaling.push_rows.Goals as goal

pub loop-y-init : goal.loop-y-init
loop-y-init c = pieces_none (shown_row c.args.size.width c.args.shown.width c.args.frame.now) c.args.out.now.items

pub loop-y-preserved : goal.loop-y-preserved
loop-y-preserved c =
    let width : ℕ = c.args.size.width in
    let columns : ℕ = c.args.shown.width in
    let at : ℕ = 4 * width * c.nearest-row.result in
    let made : List ℕ → List ℕ = λ row. pieces (column_of width columns row) columns in
    let piece : List ℕ = made (take (at + 4 * width - at) (drop at c.args.frame.now)) in
    c.in_ok-push_row.ensures
    ∙ ap (λ (bytes : List ℕ). bytes ++ piece) c.loop-y.invariant
    ∙ pieces_push (shown_row width columns c.args.frame.now) c.args.out.now.items c.loop-y.y piece
    (ap made (part at (4 * width) c.args.frame.now
    ∙ ap (λ (row : ℕ). take (4 * width) (drop (4 * width * row) c.args.frame.now)) c.nearest-row.ensures))
