use Rattle.std.proofs.Common.{◌≡◌}
use Rattle.server_tests.proofs.shared_stages.ask_ten.Given as goal

abbrev pub invariant-loop-colour : goal.invariant-loop-colour
invariant-loop-colour g l = l.pass.stage ≡ l.stage
