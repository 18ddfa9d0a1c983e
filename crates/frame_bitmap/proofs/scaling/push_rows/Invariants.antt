use Rattle.std.proofs.Common.{◌≡◌, ◌++◌}
use Rattle.frame_bitmap.specs.inner.Parts.{pieces, shown_row}
use Rattle.frame_bitmap.proofs.scaling.push_rows.Given as goal

abbrev pub invariant-loop-y : goal.invariant-loop-y
invariant-loop-y l = l.out.items ≡ l.initial.out.items ++ pieces (shown_row l.size.width l.shown.width l.frame) l.y
