-- What the calls of a site do.
use Rattle.std.specs.Prelude.{◌≡◌, ℕ, ◌+◌, ◌<◌, Bool, Option, List, All, length, slice_index_or, vec_len}
use Rattle.play_types.specs.Config.{ConfigView}
use Rattle.play_outside.specs.ClockState.{ClockState}
use Rattle.play_outside.specs.ListenerState.{ListenerState}
use Rattle.play_outside.specs.SourceState.{SourceState}
use Rattle.play_outside.specs.Fresh.{IsFreshClock, IsFreshListener, IsNewSink}
use Rattle.play_outside.specs.declared.devices.Devices.{Devices}
use Rattle.play_outside.specs.declared.folder.FileFault.{FileFault}
use Rattle.play_outside.specs.declared.folder.FileFault.TheVariants as fault
use Rattle.play_outside.specs.declared.sink.WriteStep.{WriteStep}
use Rattle.play_outside.specs.declared.sink.WriteStep.TheVariants.{Took, Failed}
use Rattle.server_run.specs.Devices.{DeviceStates}
use Rattle.play_server.specs.SiteState.{SiteState, after_call, after_call_without_memory, after_finish, after_site_fault, after_line, after_resumed}
use Rattle.play_server.specs.declared.site.FinishStep.{FinishStep}
use Rattle.play_server.specs.declared.site.FinishStep.TheVariants as finish
use Rattle.play_server.specs.declared.site.ReadyCall.{ReadyCall}

-- a clock that is fresh and has not failed
abbrev pub IsNewClock : ClockState → Type 0
IsNewClock state = IsFreshClock state × (state.faults ≡ 0)

-- a door that is fresh and has not failed
abbrev pub IsNewDoor : {L : Type 0} → ListenerState L → Type 0
IsNewDoor state = IsFreshListener state × (state.faults ≡ 0)

-- the elements have the marks 1, 2, .. in order
abbrev pub AreNumbered : {X : Type 0} → (X → ℕ) → List X → Type 0
AreNumbered {X} mark xs = (at : ℕ) (other : X) → at < length xs → mark (slice_index_or xs at other) ≡ at + 1

-- the clock, the doors and the outputs are fresh and without faults, and marked: the doors and the outputs by their places
-- from 1 on, and the outputs for the history and for the log by 0
pub record AreNew {C D O L : Type 0} (words : DeviceStates C D O L) (devices : Devices C D O) : Type 0 where
  pub clock : IsNewClock (words.clock devices.clock)
  pub doors : All (λ door. IsNewDoor (words.door door)) devices.doors.items
  pub door_marks : AreNumbered (λ door. (words.door door).mark) devices.doors.items
  pub outs : All (λ out. IsNewSink (words.out out)) devices.outs.items
  pub out_marks : AreNumbered (λ out. (words.out out).mark) devices.outs.items
  pub history : IsNewSink (words.out devices.history)
  pub history_mark : (words.out devices.history).mark ≡ 0
  pub log : IsNewSink (words.out devices.log)
  pub log_mark : (words.out devices.log).mark ≡ 0

-- the devices are new, with a door for each connection of the configuration and an output for each channel
pub record AreReady {C D O L : Type 0} (words : DeviceStates C D O L) (config : ConfigView) (devices : Devices C D O) : Type 0 where
  pub new : AreNew words devices
  pub doors : vec_len devices.doors ≡ config.connections
  pub outs : vec_len devices.outs ≡ length config.channels

-- a call of `ready` with this configuration and this path of the history's file, and whether it answered Ok
abbrev pub ready_call : ConfigView → Option (List ℕ) → Bool → ReadyCall
ready_call config history ok = record { config = config; history = history; ok = ok }

-- `ready` gave no devices: it failed, or memory ran out. Either is recorded, and nothing else changed
abbrev pub IsNotReady : {C D O : Type 0} → FileFault → ReadyCall → SiteState C D O → SiteState C D O → Type 0
IsNotReady fault.Failed call before after = after ≡ after_site_fault (after_call call before)
IsNotReady fault.OutOfMemory call before after = after ≡ after_call_without_memory before

-- the devices were taken back; if the history did not get its name, the count of faults rose
abbrev pub Finishes : {C D O : Type 0} → FinishStep → Devices C D O → SiteState C D O → SiteState C D O → Type 0
Finishes finish.Done devices before after = after ≡ after_finish devices before
Finishes finish.Failed devices before after = after ≡ after_site_fault (after_finish devices before)

-- the whole line was printed, or the site failed and recorded nothing of it
abbrev pub Says : {C D O : Type 0} → WriteStep → List ℕ → SiteState C D O → SiteState C D O → Type 0
Says (Took count) line before after = (count ≡ length line) × (after ≡ after_line line before)
Says Failed line before after = after ≡ after_site_fault before

-- the history at this path was opened, which was recorded. Its source is the one that the site gives, and has not failed
pub record Opens {C D O : Type 0} (path : List ℕ) (source : SourceState) (before after : SiteState C D O) : Type 0 where
  pub given : source ≡ before.history
  pub new : source.faults ≡ 0
  pub told : after ≡ after_resumed path before

-- no history was opened: the call failed, and nothing else changed; or memory ran out, and nothing changed
abbrev pub IsNotOpened : {C D O : Type 0} → FileFault → SiteState C D O → SiteState C D O → Type 0
IsNotOpened fault.Failed before after = after ≡ after_site_fault before
IsNotOpened fault.OutOfMemory before after = after ≡ before
