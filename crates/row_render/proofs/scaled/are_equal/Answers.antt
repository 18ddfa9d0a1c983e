use Rattle.std.proofs.Common.{arith}
use Rattle.std.proofs.lemmas.List.{ext_get_or}
use Rattle.row_render.proofs.scaled.are_equal.Goals as goal

pub returns : goal.returns
returns c = λ same. ext_get_or 0 c.args.one.now c.args.other.now c.requires (λ n lt. c.bytes.invariant same n (omega (arith, lt, c.bytes-test.false)))
