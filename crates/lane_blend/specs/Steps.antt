-- A step of a mix.
use Rattle.std.specs.Prelude.{ℕ, ◌<◌}

-- step j of d on the way from an old row to a new one
pub record MixStep : Type 0 where
  pub j : ℕ
  pub d : ℕ

-- the step of these numbers
abbrev pub step_of : ℕ → ℕ → MixStep
step_of j d = record { j = j; d = d }

-- the step lies between the old row and the new one
pub record IsMixStep (step : MixStep) : Type 0 where
  pub after : 0 < step.j
  pub before : step.j < step.d
