use Rattle.std.proofs.Common.{◌≡◌, ◌++◌}
use Rattle.frame_bitmap.specs.inner.Parts.{number_at, pieces}
use Rattle.frame_bitmap.proofs.header.push_numbers.Given as goal

abbrev pub invariant-loop-number : goal.invariant-loop-number
invariant-loop-number l = l.out.items ≡ l.initial.out.items ++ pieces (number_at l.numbers) l.number-index
