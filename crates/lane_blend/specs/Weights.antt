-- Steps of a mix as weights of sixteen bits.
use Rattle.std.specs.Prelude.{◌≡◌, ℕ, ◌+◌, ◌*◌, ◌/◌, ◌<◌}
use Rattle.pixel_math.specs.Arithmetic.{mix_byte}
use Rattle.lane_blend.specs.declared.weights.Weights.{Weights}

-- the weight of the old byte, the one of the new byte, and the base
abbrev pub old_weight : Weights → ℕ
old_weight by = by.old_high * 256 + by.old_low

abbrev pub new_weight : Weights → ℕ
new_weight by = by.new_high * 256 + by.new_low

abbrev pub base_of : Weights → ℕ
base_of by = by.base_high * 256 + by.base_low

-- the byte that weights and a base make of two bytes
abbrev pub weighed : ℕ → ℕ → ℕ → ℕ → ℕ → ℕ
weighed v w c old new = (old * v + new * w + c) / 65536

-- the weights add up to 65536
abbrev pub AreWhole : Weights → Type 0
AreWhole by = old_weight by + new_weight by ≡ 65536

-- weights and a base that mix every two bytes as step j of d does
abbrev pub Mixes : ℕ → ℕ → ℕ → ℕ → ℕ → Type 0
Mixes j d v w c = (old new : ℕ) → old < 256 → new < 256 → weighed v w c old new ≡ mix_byte old new j d

-- the weights are those of step j of d
pub record AreMixWeights (j d : ℕ) (by : Weights) : Type 0 where
  pub whole : AreWhole by
  pub mixes : Mixes j d (old_weight by) (new_weight by) (base_of by)
