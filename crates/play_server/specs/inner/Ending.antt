-- The end of the program after a fault.
use Rattle.std.specs.Prelude.{◌≡◌, ℕ}
use Rattle.server_setup.specs.Fault.{status_of}
use Rattle.server_setup.specs.declared.fault.RunFault.{RunFault}
use Rattle.play_server.specs.Program.{IsToldAs, SaysLine}
use Rattle.play_server.specs.SiteState.{SiteState}

-- a fault was met and reported: the line of the reported fault was printed, and gives the exit status
pub record EndsWithFault {C D O : Type 0} (met : RunFault) (status : ℕ) (before after : SiteState C D O) : Type 0 where
  pub told : RunFault
  pub told_is : IsToldAs met told
  pub says : SaysLine told before after
  pub status_is : status ≡ status_of told
