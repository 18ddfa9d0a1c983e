use Rattle.std.proofs.Common.{arith}
use Rattle.std.specs.Simd.Lanes.{chunk}
use Rattle.lane_blend.specs.inner.Lanes.{over_at}
use Rattle.lane_blend.proofs.Rows.{byte-le_alpha}
use Rattle.lane_blend.proofs.Writing.{chunk_below_alpha, lanes_more, lowered_over, over_lane, row_over}
use Rattle.lane_blend.proofs.over.over_row.Goals as goal

pub over_lanes-requires : goal.over_lanes-requires
over_lanes-requires c = chunk_below_alpha c.args.src.now c.lanes.at c.lanes.invariant.aligned c.requires.upper

pub lanes-preserved : goal.lanes-preserved
lanes-preserved c =
    let src = c.args.src.now in
    let old = c.args.dst.now in
    let new = c.lanes.dst in
    let at = c.lanes.at in
    lanes_more (over_at src old) (over_at (chunk at 16 src) (chunk at 16 new)) old new c.over_lanes.result at c.lanes.invariant (omega arith) c.over_lanes.ensures
    (λ j low. over_lane src old new at j c.lanes.invariant low)

pub over_byte-requires : goal.over_byte-requires
over_byte-requires c = omega (arith, byte-le_alpha c.args.src.now c.bytes.at c.requires.upper)

pub returns-clause-lowered : goal.returns-clause-lowered
returns-clause-lowered c =
    let src = c.args.src.now in
    let old = c.args.dst.now in
    let new = c.bytes.dst in
    lowered_over src old new (row_over src old new c.bytes.at c.bytes.invariant (omega arith) c.requires.whole) c.requires.upper c.requires.lower
