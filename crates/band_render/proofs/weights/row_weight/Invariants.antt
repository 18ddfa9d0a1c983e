use Rattle.std.proofs.Common.{◌≤◌}
use Rattle.band_render.specs.declared.weights.TheConstants.{MOST_OF_A_PIXEL}
use Rattle.band_render.proofs.weights.row_weight.Given as goal

-- no more than the most
abbrev pub invariant-loop-layer : goal.invariant-loop-layer
invariant-loop-layer l = l.weight ≤ MOST_OF_A_PIXEL
