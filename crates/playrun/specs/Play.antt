-- How the program ends if its words cannot be read.
use Rattle.std.specs.Prelude.{◌≡◌, ℕ}
use Rattle.server_setup.specs.Fault.{fault_line, status_of}
use Rattle.server_setup.specs.declared.fault.RunFault.{RunFault}
use Rattle.run_script.specs.Program.{Outside, WritesFaultLine}

-- the run ends with this fault: nothing is read, and the line of the fault is written to the output, or a write fails
pub record EndsAtOnce (fault : RunFault) (status : ℕ) (before after : Outside) : Type 0 where
  pub exit : status ≡ status_of fault
  pub media : after.media ≡ before.media
  pub input : after.input ≡ before.input
  pub said : WritesFaultLine (fault_line fault) before.out after.out
