-- The clip files of the code as those of the definitions.
use Rattle.std.specs.Prelude.{List, map, string_bytes}
use Rattle.clip_store.specs.declared.names.ClipFile.{ClipFile}
use Rattle.clip_store.specs.Listing.{Found}

-- a clip file with the bytes of its names
abbrev pub file_view : ClipFile → Found
file_view file = record { name = string_bytes file.name; file = string_bytes file.file }

abbrev pub file_views : List ClipFile → List Found
file_views files = map file_view files
