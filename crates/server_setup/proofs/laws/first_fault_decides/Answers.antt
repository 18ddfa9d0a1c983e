use Rattle.server_setup.proofs.FirstFault.{told_first}
use Rattle.server_setup.proofs.laws.first_fault_decides.Goals as goal

pub returns : goal.returns
returns c = told_first
