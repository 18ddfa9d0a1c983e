-- The entries of a media table, as it keeps them.
use Rattle.std.specs.Prelude.{List, map, String, Result, string_bytes}
use Rattle.std.specs.Global.{Global}
use Rattle.std.specs.Str.{chars}
use Rattle.play_types.specs.ClipFile.{ClipView}
use Rattle.play_types.specs.declared.clip_fault.ClipFault.{ClipFault}
use Rattle.clip_format.specs.Table.{Entry}

-- an entry under the characters of its name
abbrev pub entry_of : String Global × Result ClipView ClipFault → Entry
entry_of kept = record { name = chars (string_bytes kept.0); clip = kept.1 }

-- the entries, in their order
abbrev pub entries_of : List (String Global × Result ClipView ClipFault) → List Entry
entries_of kept = map entry_of kept
