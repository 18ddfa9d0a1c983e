use Rattle.std.proofs.Common.{◌≡◌, ◌++◌, List, All, false}
use Rattle.rtrb.specs.Ring.{SameConsumer, received}
use Rattle.scene_pipe.proofs.ring.next_fitting.Given as goal

abbrev pub invariant-loop : goal.invariant-loop
invariant-loop g l =
    SameConsumer l.initial.ring l.ring
    × ((others : List g.row.T.Denot) × (received l.ring ≡ received l.initial.ring ++ others) × All (λ other. g.T.Item.is_for l.channels other ≡ false) others)
