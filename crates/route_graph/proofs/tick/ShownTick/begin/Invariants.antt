use Rattle.std.proofs.Common.{◌≡◌, [], replicate, take}
use Rattle.route_graph.proofs.tick.ShownTick.begin.Given as goal

-- the channels so far show nothing
abbrev pub invariant-loop-layers : goal.invariant-loop-layers
invariant-loop-layers l = take l.layers-index l.layers-items ≡ replicate l.layers-index []
