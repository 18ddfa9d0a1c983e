use Rattle.std.proofs.Common.{◌≡◌, ◌*◌, length}
use Rattle.lane_blend.specs.Rows.{AreLowered}
use Rattle.integration_tests.proofs.lane_blend_tests.various.Given as goal

abbrev pub invariant-loop-column : goal.invariant-loop-column
invariant-loop-column l = (length l.row.items ≡ 4 * l._column) × AreLowered l.row.items
