use Rattle.pixel_math.proofs.Pixels.{mix_same}
use Rattle.pixel_math.proofs.laws.mix_of_equals.Goals as goal

pub returns : goal.returns
returns c = λ p j d _ lt. mix_same p j d lt
