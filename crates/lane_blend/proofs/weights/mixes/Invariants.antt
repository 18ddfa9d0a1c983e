use Rattle.std.proofs.Common.{◌<◌, ◌-◌, ℕ}
use Rattle.lane_blend.proofs.Sides.{Up, Down}
use Rattle.lane_blend.proofs.weights.mixes.Given as goal

abbrev pub invariant-bytes : goal.invariant-bytes
invariant-bytes l = (e : ℕ) → e < l.e → Up l.j l.d l.weight l.base e × Down l.j l.d (65536 - l.weight) l.base e
