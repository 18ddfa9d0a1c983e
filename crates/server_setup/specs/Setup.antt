-- Setting up a server from a configuration and the clips of its folder.
use Rattle.std.specs.Prelude.{◌≡◌, ℕ, Option, Some, None, Result, Ok, Err, List}
use Rattle.std.specs.Str.{encode_utf8_all}
use Rattle.play_types.specs.Config.{ConfigView}
use Rattle.play_outside.specs.Faults.{Rose}
use Rattle.play_outside.specs.FolderState.{FolderState, Files}
use Rattle.play_outside.specs.Folder.{IsHeld, config_at}
use Rattle.config_file.specs.Reading.{config_in}
use Rattle.clip_format.specs.Table.{Entry, media_names}
use Rattle.clip_store.specs.declared.fault.ScanFault.{ScanFault}
use Rattle.clip_store.specs.declared.fault.ScanFault.TheVariants as scan
use Rattle.clip_store.specs.Scan.{Answers, scanned}
use Rattle.server_setup.specs.declared.fault.RunFault.{RunFault}
use Rattle.server_setup.specs.declared.fault.RunFault.TheVariants.{Usage, ConfigText, ConfigKey, BadLine, InputTooLong, Plan, PlanEnd, Record, Resume, Clip, MediaTwice, MediaTotal, Device, OutOfMemory}
use Rattle.server_setup.specs.declared.setup.ServerSetup.{ServerSetup}
use Rattle.server_setup.specs.Fault.{fault_of_scan}

-- the folder holds, at the path of a configuration, bytes that satisfy `IsSuch`; if its contents are not known, some bytes satisfy it
abbrev pub HoldsSome : (List ℕ → Type 0) → List ℕ → FolderState → Type 0
HoldsSome IsSuch path state = (bytes : List ℕ) × IsHeld (config_at path) bytes state.files × IsSuch bytes

-- `result` is the result of reading the clips of the configuration's folder
abbrev pub Scans : ConfigView → Result (List Entry) ScanFault → FolderState → FolderState → Type 0
Scans config result before after = Answers (scanned (encode_utf8_all config.media)) result before after

-- the configuration was accepted, and its clips were refused with this fault
abbrev pub RefusesClips : List ℕ → ScanFault → FolderState → FolderState → Type 0
RefusesClips path fault before after =
    (config : ConfigView) × HoldsSome (λ bytes. config_in bytes ≡ Some (Ok config)) path before × Scans config (Err fault) before after

-- the result follows from the configuration and its clips, and nothing changed; or a read failed, and the count of faults rose; or memory
-- ran out, and nothing changed; no other fault comes
abbrev pub SetsUp : List ℕ → Result ServerSetup RunFault → FolderState → FolderState → Type 0
SetsUp path (Ok setup) before after =
    HoldsSome (λ bytes. config_in bytes ≡ Some (Ok setup.config)) path before
    × Scans setup.config (Ok setup.media) before after
    × (setup.names ≡ media_names setup.media)
SetsUp path (Err ConfigText) before after = HoldsSome (λ bytes. config_in bytes ≡ None) path before × (after ≡ before)
SetsUp path (Err (ConfigKey key)) before after = HoldsSome (λ bytes. config_in bytes ≡ Some (Err key)) path before × (after ≡ before)
SetsUp path (Err (MediaTwice name)) before after = RefusesClips path (scan.TwoNames name) before after
SetsUp path (Err (MediaTotal total)) before after = RefusesClips path (scan.TooLarge total) before after
SetsUp path (Err Device) before after = (after.files ≡ before.files) × Rose before.faults after.faults
SetsUp path (Err OutOfMemory) before after = after ≡ before
SetsUp path (Err Usage) before after = ⊥
SetsUp path (Err (BadLine number)) before after = ⊥
SetsUp path (Err InputTooLong) before after = ⊥
SetsUp path (Err (Plan number)) before after = ⊥
SetsUp path (Err PlanEnd) before after = ⊥
SetsUp path (Err (Record name)) before after = ⊥
SetsUp path (Err (Resume number)) before after = ⊥
SetsUp path (Err (Clip fault)) before after = ⊥

-- the fault of clips that do not become a table
abbrev pub fault_of_clips : Result (List Entry) ScanFault → Option RunFault
fault_of_clips (Ok table) = None
fault_of_clips (Err fault) = Some (fault_of_scan fault)

-- the first fault, from the result of `config_in` for the text of a configuration, and from the clips of its folder
abbrev pub fault_of_text : Files → Option (Result ConfigView (List ℕ)) → Option RunFault
fault_of_text files None = Some ConfigText
fault_of_text files (Some (Err key)) = Some (ConfigKey key)
fault_of_text files (Some (Ok config)) = fault_of_clips (scanned (encode_utf8_all config.media) files)

-- the first fault of the bytes at the path of a configuration, and of the clips of its folder
abbrev pub fault_of_held : Files → Option (List ℕ) → Option RunFault
fault_of_held files None = Some Device
fault_of_held files (Some bytes) = fault_of_text files (config_in bytes)

-- the first fault of the files for a configuration at this path; `None` if a server can be set up from them
unfoldable pub fault_of_files : List ℕ → Files → Option RunFault
fault_of_files path files = fault_of_held files (config_at path files)

-- the result agrees with the first fault of the files: after a set-up there is none, and a refusal is that fault; a failed read and lack of
-- memory say nothing about it, and no other fault comes
abbrev pub TellsFirst : Result ServerSetup RunFault → Option RunFault → Type 0
TellsFirst (Ok setup) first = first ≡ None
TellsFirst (Err ConfigText) first = first ≡ Some ConfigText
TellsFirst (Err (ConfigKey key)) first = first ≡ Some (ConfigKey key)
TellsFirst (Err (MediaTwice name)) first = first ≡ Some (MediaTwice name)
TellsFirst (Err (MediaTotal total)) first = first ≡ Some (MediaTotal total)
TellsFirst (Err Device) first = Unit {0}
TellsFirst (Err OutOfMemory) first = Unit {0}
TellsFirst (Err Usage) first = ⊥
TellsFirst (Err (BadLine number)) first = ⊥
TellsFirst (Err InputTooLong) first = ⊥
TellsFirst (Err (Plan number)) first = ⊥
TellsFirst (Err PlanEnd) first = ⊥
TellsFirst (Err (Record name)) first = ⊥
TellsFirst (Err (Resume number)) first = ⊥
TellsFirst (Err (Clip fault)) first = ⊥
