use Rattle.std.proofs.Common.{refl}
use Rattle.hex.specs.Hex.{encode_with}
use Rattle.made_script.proofs.generator.two_digits.Goals as goal

pub returns : goal.returns
unfolding encode_with
returns c = refl
