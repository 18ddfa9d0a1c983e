use Rattle.std.proofs.Common.{arith}
use Rattle.std.specs.Simd.Lanes.{chunk}
use Rattle.lane_blend.specs.inner.Lanes.{key_at}
use Rattle.lane_blend.proofs.Writing.{key_lane, lanes_more}
use Rattle.lane_blend.proofs.key.key_row.Goals as goal

pub lanes-preserved : goal.lanes-preserved
lanes-preserved c =
    let keys = c.args.keys.now in
    let old = c.args.row.now in
    let new = c.lanes.row in
    let at = c.lanes.at in
    lanes_more (key_at old keys) (key_at (chunk at 16 new) (chunk at 16 keys)) old new c.key_lanes.result at c.lanes.invariant (omega arith) c.key_lanes.ensures
    (λ j low. key_lane old keys new at j c.lanes.invariant low)
