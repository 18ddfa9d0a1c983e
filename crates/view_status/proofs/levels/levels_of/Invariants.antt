use Rattle.std.proofs.Common.{◌≡◌}
use Rattle.view_status.proofs.Loudest.{level_to}
use Rattle.view_status.proofs.levels.levels_of.Given as goal

-- the levels are those of the pairs so far
abbrev pub invariant-loop-pair : goal.invariant-loop-pair
invariant-loop-pair l = (l.levels.left ≡ level_to l.sound 0 l.pair) × (l.levels.right ≡ level_to l.sound 1 l.pair)
