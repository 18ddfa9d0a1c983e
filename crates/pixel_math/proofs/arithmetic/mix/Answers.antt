use Rattle.std.proofs.Common.{arith}
use Rattle.pixel_math.proofs.Pixels.{IsPixel-mix}
use Rattle.pixel_math.proofs.arithmetic.mix.Goals as goal

pub new-requires : goal.new-requires
new-requires c = grind (arith, IsPixel-mix)
