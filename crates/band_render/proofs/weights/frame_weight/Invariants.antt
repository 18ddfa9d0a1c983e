use Rattle.std.proofs.Common.{◌*◌, ◌≤◌}
use Rattle.band_render.specs.declared.weights.TheConstants.{MOST_WEIGHT}
use Rattle.band_render.proofs.weights.frame_weight.Given as goal

-- the weight of the rows above this one
abbrev pub invariant-loop-y : goal.invariant-loop-y
invariant-loop-y l = record {
  all : l.all ≤ MOST_WEIGHT * l.y;
  row : l.row ≤ MOST_WEIGHT;
}
