use Rattle.std.proofs.Common.{refl}
use Rattle.run_script.proofs.Outcomes.{out_of_memory}
use Rattle.run_script.proofs.program.play.Goals as goal

pub returns-in_err-setup-in-Plain : goal.returns-in_err-setup-in-Plain
returns-in_err-setup-in-Plain g c = rw c.in-Plain.is (refl, out_of_memory _ _ c.from_residual.result _ c.from_residual.ensures.1)
