use Rattle.std.proofs.Common.{◌*◌, ◌≤◌}
use Rattle.band_render.proofs.plan.weight_of_all.Given as goal

-- the weight of the frames before this one
abbrev pub invariant-loop-at : goal.invariant-loop-at
invariant-loop-at l = l.all ≤ 16777216000000 * l.at
