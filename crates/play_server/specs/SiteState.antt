-- What a site records of its calls.
use Rattle.std.specs.Prelude.{ℕ, Option, Some, List, [], ◌∷◌, ◌++◌, option_map}
use Rattle.play_outside.specs.Faults.{one_more}
use Rattle.play_outside.specs.SourceState.{SourceState}
use Rattle.play_outside.specs.declared.devices.Devices.{Devices}
use Rattle.play_server.specs.declared.site.ReadyCall.{ReadyCall}

-- the calls of `ready` that did not run out of memory, in order, and how many did; the devices that the last `finish` took back, and
-- the number of calls of `finish`; the bytes of the lines that were printed, each with a line feed at its end; and the paths of the
-- histories that were opened, in order
pub record SiteTold (C D O : Type 0) : Type 0 where
  pub calls : List ReadyCall
  pub calls_without_memory : ℕ
  pub finished : Option (Devices C D O)
  pub finishes : ℕ
  pub said : List ℕ
  pub resumed : List (List ℕ)

-- what was recorded, if the site records it, the state of the source that a call of `resume` gives, and how often `ready`, `finish`,
-- `resume` or `say` has failed
pub record SiteState (C D O : Type 0) : Type 0 where
  pub told : Option (SiteTold C D O)
  pub history : SourceState
  pub faults : ℕ

-- the record after one more call of `ready`
abbrev pub one_call : {C D O : Type 0} → ReadyCall → SiteTold C D O → SiteTold C D O
one_call call told = record told { calls = told.calls ++ call ∷ [] }

-- the record after a call of `ready` ran out of memory
abbrev pub one_call_without_memory : {C D O : Type 0} → SiteTold C D O → SiteTold C D O
one_call_without_memory told = record told { calls_without_memory = one_more told.calls_without_memory }

-- the record after a call of `finish`
abbrev pub one_finish : {C D O : Type 0} → Devices C D O → SiteTold C D O → SiteTold C D O
one_finish devices told = record told { finished = Some devices; finishes = one_more told.finishes }

-- the record after a line was printed
abbrev pub one_line : {C D O : Type 0} → List ℕ → SiteTold C D O → SiteTold C D O
one_line line told = record told { said = told.said ++ line ++ 10 ∷ [] }

-- the record after the history at this path was opened
abbrev pub one_resumed : {C D O : Type 0} → List ℕ → SiteTold C D O → SiteTold C D O
one_resumed path told = record told { resumed = told.resumed ++ path ∷ [] }

-- the site after a call of `ready`
abbrev pub after_call : {C D O : Type 0} → ReadyCall → SiteState C D O → SiteState C D O
after_call call state = record state { told = option_map (one_call call) state.told }

-- the site after a call of `ready` ran out of memory
abbrev pub after_call_without_memory : {C D O : Type 0} → SiteState C D O → SiteState C D O
after_call_without_memory state = record state { told = option_map one_call_without_memory state.told }

-- the site after one more fault
abbrev pub after_site_fault : {C D O : Type 0} → SiteState C D O → SiteState C D O
after_site_fault state = record state { faults = one_more state.faults }

-- the site after a call of `finish`
abbrev pub after_finish : {C D O : Type 0} → Devices C D O → SiteState C D O → SiteState C D O
after_finish devices state = record state { told = option_map (one_finish devices) state.told }

-- the site after a line was printed
abbrev pub after_line : {C D O : Type 0} → List ℕ → SiteState C D O → SiteState C D O
after_line line state = record state { told = option_map (one_line line) state.told }

-- the site after the history at this path was opened
abbrev pub after_resumed : {C D O : Type 0} → List ℕ → SiteState C D O → SiteState C D O
after_resumed path state = record state { told = option_map (one_resumed path) state.told }
