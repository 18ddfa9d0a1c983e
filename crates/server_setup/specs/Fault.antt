-- The exit status and the line of each fault of a run, and which faults of a run the faults of files, configurations and clips are.
use Rattle.std.specs.Prelude.{ℕ, List, [], ◌∷◌, ◌++◌, codes, decimal}
use Rattle.std.specs.Str.{encode_utf8_all}
use Rattle.play_outside.specs.declared.folder.FileFault.{FileFault}
use Rattle.play_outside.specs.declared.folder.FileFault.TheVariants as file
use Rattle.config_file.specs.declared.fault.ConfigFault.{ConfigFault}
use Rattle.config_file.specs.declared.fault.ConfigFault.TheVariants as config
use Rattle.play_types.specs.declared.clip_fault.ClipFault.{ClipFault}
use Rattle.play_types.specs.declared.clip_fault.ClipFault.TheVariants as clip
use Rattle.clip_store.specs.declared.fault.ScanFault.{ScanFault}
use Rattle.clip_store.specs.declared.fault.ScanFault.TheVariants as scan
use Rattle.server_setup.specs.declared.fault.RunFault.{RunFault}
use Rattle.server_setup.specs.declared.fault.RunFault.TheVariants.{Usage, ConfigText, ConfigKey, BadLine, InputTooLong, Plan, PlanEnd, Record, Resume, Clip, MediaTwice, MediaTotal, Device, OutOfMemory}

-- the exit status if a clip is refused
abbrev pub clip_status : ClipFault → ℕ
clip_status clip.BadMagic = 2
clip_status clip.BadVersion = 2
clip_status (clip.BadField at) = 2
clip_status (clip.Short needed had) = 2
clip_status (clip.Long extra) = 2
clip_status clip.OutOfMemory = 5

-- the line if a clip is refused: the byte of the field, the bytes that are needed and those that the file has, or the bytes
-- after the last frame
abbrev pub clip_line : ClipFault → List ℕ
clip_line clip.BadMagic = codes "E clip magic\n"
clip_line clip.BadVersion = codes "E clip version\n"
clip_line (clip.BadField at) = codes "E clip field " ++ decimal at ++ 10 ∷ []
clip_line (clip.Short needed had) = codes "E clip short " ++ decimal needed ++ 32 ∷ decimal had ++ 10 ∷ []
clip_line (clip.Long extra) = codes "E clip long " ++ decimal extra ++ 10 ∷ []
clip_line clip.OutOfMemory = codes "E memory\n"

-- the line of a refused clip has a number
abbrev pub HasNumber : ClipFault → Type 0
HasNumber clip.BadMagic = ⊥
HasNumber clip.BadVersion = ⊥
HasNumber (clip.BadField at) = Unit {0}
HasNumber (clip.Short needed had) = Unit {0}
HasNumber (clip.Long extra) = Unit {0}
HasNumber clip.OutOfMemory = ⊥

-- the exit status of a fault
abbrev pub status_of : RunFault → ℕ
status_of Usage = 1
status_of ConfigText = 2
status_of (ConfigKey key) = 2
status_of (BadLine number) = 2
status_of InputTooLong = 2
status_of (Plan number) = 2
status_of PlanEnd = 2
status_of (Record name) = 2
status_of (Resume number) = 2
status_of (Clip fault) = clip_status fault
status_of (MediaTwice name) = 3
status_of (MediaTotal total) = 3
status_of Device = 4
status_of OutOfMemory = 5

-- the line of a fault, with its names in UTF-8
abbrev pub fault_line : RunFault → List ℕ
fault_line Usage = codes "E usage\n"
fault_line ConfigText = codes "E config text\n"
fault_line (ConfigKey key) = codes "E config key " ++ encode_utf8_all key ++ 10 ∷ []
fault_line (BadLine number) = codes "E line " ++ decimal number ++ 10 ∷ []
fault_line InputTooLong = codes "E input too long\n"
fault_line (Plan number) = codes "E plan " ++ decimal number ++ 10 ∷ []
fault_line PlanEnd = codes "E plan end\n"
fault_line (Record name) = codes "E record " ++ encode_utf8_all name ++ 10 ∷ []
fault_line (Resume number) = codes "E resume " ++ decimal number ++ 10 ∷ []
fault_line (Clip fault) = clip_line fault
fault_line (MediaTwice name) = codes "E media twice " ++ encode_utf8_all name ++ 10 ∷ []
fault_line (MediaTotal total) = codes "E media total " ++ decimal total ++ 10 ∷ []
fault_line Device = codes "E device\n"
fault_line OutOfMemory = codes "E memory\n"

-- the line of a fault has a name or a number
abbrev pub HasDetail : RunFault → Type 0
HasDetail Usage = ⊥
HasDetail ConfigText = ⊥
HasDetail (ConfigKey key) = Unit {0}
HasDetail (BadLine number) = Unit {0}
HasDetail InputTooLong = ⊥
HasDetail (Plan number) = Unit {0}
HasDetail PlanEnd = ⊥
HasDetail (Record name) = Unit {0}
HasDetail (Resume number) = Unit {0}
HasDetail (Clip fault) = HasNumber fault
HasDetail (MediaTwice name) = Unit {0}
HasDetail (MediaTotal total) = Unit {0}
HasDetail Device = ⊥
HasDetail OutOfMemory = ⊥

-- the fault of a run whose configuration was not read
abbrev pub fault_of_file : FileFault → RunFault
fault_of_file file.Failed = Device
fault_of_file file.OutOfMemory = OutOfMemory

-- the fault of a run whose configuration was refused
abbrev pub fault_of_config : ConfigFault → RunFault
fault_of_config config.NotToml = ConfigText
fault_of_config (config.Key key) = ConfigKey key
fault_of_config config.OutOfMemory = OutOfMemory

-- the fault of a run whose input is no clip
abbrev pub fault_of_clip : ClipFault → RunFault
fault_of_clip clip.BadMagic = Clip clip.BadMagic
fault_of_clip clip.BadVersion = Clip clip.BadVersion
fault_of_clip (clip.BadField at) = Clip (clip.BadField at)
fault_of_clip (clip.Short needed had) = Clip (clip.Short needed had)
fault_of_clip (clip.Long extra) = Clip (clip.Long extra)
fault_of_clip clip.OutOfMemory = OutOfMemory

-- the fault of a run whose clips did not become a table
abbrev pub fault_of_scan : ScanFault → RunFault
fault_of_scan scan.ReadFault = Device
fault_of_scan (scan.TwoNames name) = MediaTwice name
fault_of_scan (scan.TooLarge total) = MediaTotal total
fault_of_scan scan.OutOfMemory = OutOfMemory
