-- How the program ends if its words cannot be read.
use Rattle.std.specs.Prelude.{◌≡◌, ℕ}
use Rattle.server_setup.specs.Fault.{status_of}
use Rattle.server_setup.specs.declared.fault.RunFault.{RunFault}
use Rattle.play_viewer.specs.Moves.{DeskState}
use Rattle.play_viewer.specs.Program.{SaysLine}

-- the run ends with this fault: the desk is not opened, and the line of the fault is written, or could not be
pub record EndsAtOnce (fault : RunFault) (status : ℕ) (before after : DeskState) : Type 0 where
  pub exit : status ≡ status_of fault
  pub says : SaysLine fault before after
