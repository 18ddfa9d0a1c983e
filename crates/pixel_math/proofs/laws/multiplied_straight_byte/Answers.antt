use Rattle.pixel_math.proofs.ColourBytes.{straight-lt, scaled-straight}
use Rattle.pixel_math.proofs.laws.multiplied_straight_byte.Goals as goal

pub returns-clause-byte : goal.returns-clause-byte
returns-clause-byte c = straight-lt

pub returns-clause-back : goal.returns-clause-back
returns-clause-back c = scaled-straight
