use Rattle.std.proofs.Common.{◌≡◌, ◌++◌}
use Rattle.frame_bitmap.specs.inner.Parts.{column_of, pieces}
use Rattle.frame_bitmap.proofs.scaling.push_row.Given as goal

abbrev pub invariant-loop-x : goal.invariant-loop-x
invariant-loop-x l = l.out.items ≡ l.initial.out.items ++ pieces (column_of l.width l.columns l.row) l.x
