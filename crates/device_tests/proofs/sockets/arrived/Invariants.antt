use Rattle.std.proofs.Common.{◌≡◌}
use Rattle.device_tests.proofs.sockets.arrived.Given as goal

abbrev pub invariant-loop : goal.invariant-loop
invariant-loop g l = (g.D.Listener.state l.door).away ≡ 0
