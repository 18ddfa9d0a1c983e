-- Setting up, and what a call leaves unchanged.
use Rattle.std.proofs.Common.{◌≡◌, ◌≢◌, ℕ, List, refl, sym, ap, ◌∙◌, subst}
use Rattle.std.specs.Prelude.{Some, Result, Ok, Err}
use Rattle.std.specs.Result.{IsErrAnd}
use Rattle.play_types.specs.Config.{ConfigView}
use Rattle.play_outside.specs.FolderState.{FolderState}
use Rattle.play_outside.specs.Folder.{IsHeld, config_at, Misses}
use Rattle.play_outside.specs.declared.folder.FileFault.{FileFault}
use Rattle.play_outside.specs.declared.folder.FileFault.TheVariants as file
use Rattle.config_file.specs.declared.fault.ConfigFault.{ConfigFault}
use Rattle.config_file.specs.declared.fault.ConfigFault.TheVariants as config
use Rattle.config_file.specs.Reading.{IsReadOf, config_in}
use Rattle.clip_store.specs.declared.fault.ScanFault.{ScanFault}
use Rattle.clip_store.specs.declared.fault.ScanFault.TheVariants as scan
use Rattle.server_setup.specs.declared.setup.ServerSetup.{ServerSetup}
use Rattle.server_setup.specs.declared.fault.RunFault.{RunFault}
use Rattle.server_setup.specs.declared.fault.RunFault.TheVariants.{Usage, ConfigText, ConfigKey, BadLine, InputTooLong, Plan, PlanEnd, Record, Resume, Clip, MediaTwice, MediaTotal, Device, OutOfMemory}
use Rattle.server_setup.specs.Fault.{fault_of_config, fault_of_file, fault_of_scan}
use Rattle.server_setup.specs.Setup.{Scans, SetsUp}
use Rattle.server_setup.specs.inner.Reading.{ReadsMedia}

-- a folder whose clips did not become a table
pub shows_fault : (config : ConfigView) (fault : ScanFault) (before after : FolderState) → Scans config (Err fault) before after → ReadsMedia config (Err (fault_of_scan fault)) before after
shows_fault config scan.ReadFault before after scans = scans
shows_fault config (scan.TwoNames name) before after scans = scans
shows_fault config (scan.TooLarge total) before after scans = scans
shows_fault config scan.OutOfMemory before after scans = scans

-- a configuration that was not read
pub unread : (path : List ℕ) (fault : FileFault) (before after : FolderState) → Misses fault before after → SetsUp path (Err (fault_of_file fault)) before after
unread path file.Failed before after misses = misses
unread path file.OutOfMemory before after misses = misses

-- bytes that are refused as a configuration
pub refused : (path bytes : List ℕ) (fault : ConfigFault) (before after : FolderState) → IsHeld (config_at path) bytes before.files → after ≡ before → IsReadOf bytes (Err fault)
    → SetsUp path (Err (fault_of_config fault)) before after
refused path bytes config.NotToml before after held same read = ((bytes, held, read), same)
refused path bytes (config.Key name) before after held same read = ((bytes, held, read), same)
refused path bytes config.OutOfMemory before after held same read = same

shown_from : (path bytes : List ℕ) (config : ConfigView) (result : Result ServerSetup RunFault) (before after : FolderState) → IsHeld (config_at path) bytes before.files → config_in bytes ≡ Some (Ok config)
    → ReadsMedia config result before after → SetsUp path result before after
shown_from path bytes config (Ok setup) before after held accepted shows = (
  (bytes, held, accepted ∙ ap (λ (c : ConfigView). Some (Ok c)) (sym shows.0)),
  subst (λ (c : ConfigView). Scans c (Ok setup.media) before after) (sym shows.0) shows.1,
  shows.2,
)
shown_from path bytes config (Err (MediaTwice name)) before after held accepted shows = (config, (bytes, held, accepted), shows)
shown_from path bytes config (Err (MediaTotal total)) before after held accepted shows = (config, (bytes, held, accepted), shows)
shown_from path bytes config (Err Device) before after held accepted shows = shows
shown_from path bytes config (Err OutOfMemory) before after held accepted shows = shows
shown_from path bytes config (Err ConfigText) before after held accepted shows = absurd shows
shown_from path bytes config (Err (ConfigKey name)) before after held accepted shows = absurd shows
shown_from path bytes config (Err Usage) before after held accepted shows = absurd shows
shown_from path bytes config (Err (BadLine line)) before after held accepted shows = absurd shows
shown_from path bytes config (Err InputTooLong) before after held accepted shows = absurd shows
shown_from path bytes config (Err (Plan number)) before after held accepted shows = absurd shows
shown_from path bytes config (Err PlanEnd) before after held accepted shows = absurd shows
shown_from path bytes config (Err (Record name)) before after held accepted shows = absurd shows
shown_from path bytes config (Err (Resume number)) before after held accepted shows = absurd shows
shown_from path bytes config (Err (Clip fault)) before after held accepted shows = absurd shows

-- the clips of a configuration that is accepted
pub shown : (path bytes : List ℕ) (config : ConfigView) (result : Result ServerSetup RunFault) (before state after : FolderState) → IsHeld (config_at path) bytes before.files → state ≡ before
    → config_in bytes ≡ Some (Ok config) → ReadsMedia config result state after → SetsUp path result before after
shown path bytes config result before state after held same accepted shows =
    shown_from path bytes config result before after held accepted (subst (λ (s : FolderState). ReadsMedia config result s after) same shows)

-- every result but a fault of the device leaves the folder as it was
pub kept_but_device : (path : List ℕ) (result : Result ServerSetup RunFault) (before after : FolderState) → SetsUp path result before after → result ≢ Err Device → after ≡ before
kept_but_device path (Ok setup) before after sets other = sets.1.1
kept_but_device path (Err ConfigText) before after sets other = sets.1
kept_but_device path (Err (ConfigKey name)) before after sets other = sets.1
kept_but_device path (Err (MediaTwice name)) before after sets other = sets.2.1
kept_but_device path (Err (MediaTotal total)) before after sets other = sets.2.2
kept_but_device path (Err Device) before after sets other = absurd (other refl)
kept_but_device path (Err OutOfMemory) before after sets other = sets
kept_but_device path (Err Usage) before after sets other = absurd sets
kept_but_device path (Err (BadLine line)) before after sets other = absurd sets
kept_but_device path (Err InputTooLong) before after sets other = absurd sets
kept_but_device path (Err (Plan number)) before after sets other = absurd sets
kept_but_device path (Err PlanEnd) before after sets other = absurd sets
kept_but_device path (Err (Record name)) before after sets other = absurd sets
kept_but_device path (Err (Resume number)) before after sets other = absurd sets
kept_but_device path (Err (Clip fault)) before after sets other = absurd sets

-- no result changes what is held
pub files_kept : (path : List ℕ) (result : Result ServerSetup RunFault) (before after : FolderState) → SetsUp path result before after → after.files ≡ before.files
files_kept path (Ok setup) before after sets = ap (λ (s : FolderState). s.files) sets.1.1
files_kept path (Err ConfigText) before after sets = ap (λ (s : FolderState). s.files) sets.1
files_kept path (Err (ConfigKey name)) before after sets = ap (λ (s : FolderState). s.files) sets.1
files_kept path (Err (MediaTwice name)) before after sets = ap (λ (s : FolderState). s.files) sets.2.1
files_kept path (Err (MediaTotal total)) before after sets = ap (λ (s : FolderState). s.files) sets.2.2
files_kept path (Err Device) before after sets = sets.0
files_kept path (Err OutOfMemory) before after sets = ap (λ (s : FolderState). s.files) sets
files_kept path (Err Usage) before after sets = absurd sets
files_kept path (Err (BadLine line)) before after sets = absurd sets
files_kept path (Err InputTooLong) before after sets = absurd sets
files_kept path (Err (Plan number)) before after sets = absurd sets
files_kept path (Err PlanEnd) before after sets = absurd sets
files_kept path (Err (Record name)) before after sets = absurd sets
files_kept path (Err (Resume number)) before after sets = absurd sets
files_kept path (Err (Clip fault)) before after sets = absurd sets

-- the fault of a folder whose clips did not become a table, passed on
pub handed_on : (config : ConfigView) (fault : ScanFault) (result : Result ServerSetup RunFault) (before after : FolderState) → Scans config (Err fault) before after
    → IsErrAnd result (λ e. e ≡ fault_of_scan fault) → ReadsMedia config result before after
handed_on config fault (Ok setup) before after scans handed = absurd handed
handed_on config fault (Err e) before after scans handed =
    subst (λ (f : RunFault). ReadsMedia config (Err f) before after) (sym handed) (shows_fault config fault before after scans)
