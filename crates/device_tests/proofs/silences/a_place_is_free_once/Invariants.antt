use Rattle.std.proofs.Common.{◌≡◌}
use Rattle.device_tests.proofs.silences.a_place_is_free_once.Given as goal

-- the door has its place again at each turn
abbrev pub invariant-loop : goal.invariant-loop
invariant-loop g l = l.door.away ≡ 0
