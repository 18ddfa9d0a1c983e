use Rattle.std.proofs.Common.{ℕ, List, ◌++◌, ap, ◌∙◌}
use Rattle.frame_bitmap.specs.inner.Parts.{number_at}
use Rattle.frame_bitmap.proofs.Pieces.{pieces_none, pieces_push}
use Rattle.frame_bitmap.proofs.header.push_numbers.Goals as goal

pub loop-number-init : goal.loop-number-init
loop-number-init c = pieces_none (number_at c.args.numbers.now) c.args.out.now.items

pub loop-number-preserved : goal.loop-number-preserved
loop-number-preserved c =
    c.in_ok-extend_from_slice.ensures.items
    ∙ ap (λ (bytes : List ℕ). bytes ++ c.to_le_bytes.result) c.loop-number.invariant
    ∙ pieces_push (number_at c.args.numbers.now) c.args.out.now.items c.loop-number.number-index c.to_le_bytes.result c.to_le_bytes.ensures
