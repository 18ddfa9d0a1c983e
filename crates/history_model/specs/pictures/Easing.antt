-- How a transition is drawn whose curve is not linear.
use Rattle.std.specs.Prelude.{ℕ, max, Bool, true, false, pos, unsigned_abs, if◌then◌else◌}
use Rattle.play_types.specs.Curve.{along}
use Rattle.play_types.specs.Transition.{TransView, trans_of}
use Rattle.play_types.specs.declared.transition.Curve.{Curve}
use Rattle.play_types.specs.declared.transition.Curve.TheVariants.{Linear, EaseInQuad, EaseOutQuad, EaseInCubic, EaseOutCubic}
use Rattle.play_types.specs.declared.transition.TheConstants.{EASED_STEPS}

-- whether a curve is the linear one
abbrev pub is_linear : Curve → Bool
is_linear Linear = true
is_linear EaseInQuad = false
is_linear EaseOutQuad = false
is_linear EaseInCubic = false
is_linear EaseOutCubic = false

-- the step, of 1,000,000, that a curve has reached at tick j of d, but at least 1
abbrev pub eased_step : Curve → ℕ → ℕ → ℕ
eased_step curve j d = max (unsigned_abs (along curve (pos 0) (pos EASED_STEPS) j d)) 1

-- the transition and the step that are drawn for a step of a transition: the given ones if its curve is linear, else a linear
-- transition of 1,000,000 ticks at the step that the curve has reached
abbrev pub eased : TransView → ℕ → TransView × ℕ
eased trans step =
    if is_linear trans.curve then (trans, step)
    else (trans_of trans.kind EASED_STEPS Linear trans.leftward, eased_step trans.curve step trans.duration)
