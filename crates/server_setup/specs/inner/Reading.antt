-- Reading the clips when a server is set up.
use Rattle.std.specs.Prelude.{◌≡◌, Result, Ok, Err}
use Rattle.play_types.specs.Config.{ConfigView}
use Rattle.play_outside.specs.Faults.{Rose}
use Rattle.play_outside.specs.FolderState.{FolderState}
use Rattle.clip_format.specs.Table.{media_names}
use Rattle.clip_store.specs.declared.fault.ScanFault.TheVariants as scan
use Rattle.server_setup.specs.declared.fault.RunFault.{RunFault}
use Rattle.server_setup.specs.declared.fault.RunFault.TheVariants.{Usage, ConfigText, ConfigKey, BadLine, InputTooLong, Plan, PlanEnd, Record, Resume, Clip, MediaTwice, MediaTotal, Device, OutOfMemory}
use Rattle.server_setup.specs.declared.setup.ServerSetup.{ServerSetup}
use Rattle.server_setup.specs.Setup.{Scans}

-- the clips of a configuration were read, or refused; or a read failed, or memory ran out
abbrev pub ReadsMedia : ConfigView → Result ServerSetup RunFault → FolderState → FolderState → Type 0
ReadsMedia config (Ok setup) before after =
    (setup.config ≡ config) × Scans config (Ok setup.media) before after × (setup.names ≡ media_names setup.media)
ReadsMedia config (Err (MediaTwice name)) before after = Scans config (Err (scan.TwoNames name)) before after
ReadsMedia config (Err (MediaTotal total)) before after = Scans config (Err (scan.TooLarge total)) before after
ReadsMedia config (Err Device) before after = (after.files ≡ before.files) × Rose before.faults after.faults
ReadsMedia config (Err OutOfMemory) before after = after ≡ before
ReadsMedia config (Err Usage) before after = ⊥
ReadsMedia config (Err ConfigText) before after = ⊥
ReadsMedia config (Err (ConfigKey key)) before after = ⊥
ReadsMedia config (Err (BadLine number)) before after = ⊥
ReadsMedia config (Err InputTooLong) before after = ⊥
ReadsMedia config (Err (Plan number)) before after = ⊥
ReadsMedia config (Err PlanEnd) before after = ⊥
ReadsMedia config (Err (Record name)) before after = ⊥
ReadsMedia config (Err (Resume number)) before after = ⊥
ReadsMedia config (Err (Clip fault)) before after = ⊥
