-- Files in memory, as a folder exposes them.
use Rattle.std.specs.Prelude.{List, map, string_bytes}
use Rattle.play_outside.specs.FolderState.{ConfigFile, MediaFile, Files}
use Rattle.play_outside.specs.declared.memory.media.MemConfig.{MemConfig}
use Rattle.play_outside.specs.declared.memory.media.MemFile.{MemFile}

-- the path and the bytes of a configuration
abbrev pub config_file : MemConfig → ConfigFile
config_file config = record { path = string_bytes config.path; bytes = config.bytes.items }

-- the folder, the name and the bytes of a media file
abbrev pub media_file : MemFile → MediaFile
media_file file = record { folder = string_bytes file.folder; name = string_bytes file.name; bytes = file.bytes.items }

-- all files, in their order
abbrev pub files_of : List MemConfig → List MemFile → Files
files_of configs media = record { configs = map config_file configs; media = map media_file media }
