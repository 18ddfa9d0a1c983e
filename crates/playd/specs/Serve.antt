-- How the program ends if its words cannot be read.
use Rattle.std.specs.Prelude.{◌≡◌, ℕ, List, [], ◌∷◌, ◌++◌}
use Rattle.play_outside.specs.declared.sink.WriteStep.{WriteStep}
use Rattle.server_setup.specs.Fault.{fault_line, status_of}
use Rattle.server_setup.specs.declared.fault.RunFault.{RunFault}
use Rattle.play_server.specs.SiteState.{SiteState}
use Rattle.play_server.specs.Site.{Says}

-- the run ends with this fault: no devices are asked for, and the line of the fault is written, or could not be
pub record EndsAtOnce {C D O : Type 0} (fault : RunFault) (status : ℕ) (before after : SiteState C D O) : Type 0 where
  pub exit : status ≡ status_of fault
  -- the line without its line feed
  pub line : List ℕ
  pub whole : line ++ 10 ∷ [] ≡ fault_line fault
  pub step : WriteStep
  pub said : Says step line before after
