use Rattle.fixed_params.proofs.Digits.{capped_more}
use Rattle.fixed_params.proofs.read.capped_whole.Goals as goal

pub loop-digit-preserved : goal.loop-digit-preserved
loop-digit-preserved c =
    rw (c.min-value.ensures, c.from.ensures)
    (capped_more c.args.digits.now c.loop-digit.digit-index c.loop-digit.value 1001 c.requires c.loop-digit-test.true c.loop-digit.invariant)
