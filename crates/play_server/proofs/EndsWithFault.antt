-- What comes of a fault that is reported.
use Rattle.std.proofs.Common.{◌≡◌, ◌≢◌, ℕ, refl, inl, inr}
use Rattle.server_setup.specs.Fault.{HasDetail, status_of}
use Rattle.server_setup.specs.declared.fault.RunFault.{RunFault}
use Rattle.server_setup.specs.declared.fault.RunFault.TheVariants.{Usage, ConfigText, ConfigKey, BadLine, InputTooLong, Plan, PlanEnd, Record, Resume, Clip, MediaTwice, MediaTotal, Device, OutOfMemory}
use Rattle.play_server.specs.Program.{SaysLine, TakesMemory}
use Rattle.play_server.specs.SiteState.{SiteState}
use Rattle.play_server.specs.inner.Ending.{EndsWithFault}

-- a line with a name or a number needs memory, if the number is not the length of the clip files
pub takes_memory : (fault : RunFault) → HasDetail fault → ((total : ℕ) → fault ≢ MediaTotal total) → TakesMemory fault
takes_memory Usage detail other = detail
takes_memory ConfigText detail other = detail
takes_memory (ConfigKey key) detail other = detail
takes_memory (BadLine number) detail other = detail
takes_memory InputTooLong detail other = detail
takes_memory (Plan number) detail other = detail
takes_memory PlanEnd detail other = detail
takes_memory (Record name) detail other = detail
takes_memory (Resume number) detail other = detail
takes_memory (Clip fault) detail other = detail
takes_memory (MediaTwice name) detail other = detail
takes_memory (MediaTotal total) detail other = absurd (other total refl)
takes_memory Device detail other = detail
takes_memory OutOfMemory detail other = detail

module _ {C D O : Type 0} (met : RunFault) (status : ℕ) (before after : SiteState C D O) where
  -- the line of the fault was printed
  pub told_as_met : SaysLine met before after → status ≡ status_of met → EndsWithFault met status before after
  told_as_met says status_is = record { told = met; told_is = inl refl; says = says; status_is = status_is }

  -- memory ran out for its line, and the line of OutOfMemory was printed
  pub told_without_memory : TakesMemory met → SaysLine OutOfMemory before after → status ≡ 5 → EndsWithFault met status before after
  told_without_memory takes says status_is = record { told = OutOfMemory; told_is = inr (takes, refl); says = says; status_is = status_is }
