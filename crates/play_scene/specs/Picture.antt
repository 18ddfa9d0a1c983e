-- The clips of a media table.
use Rattle.std.specs.Prelude.{List, Option, map}
use Rattle.play_types.specs.ClipFile.{ClipView}
use Rattle.clip_format.specs.Table.{Entry, readable}

-- the clips of a media table by their numbers, none if a file is unreadable
abbrev pub clips_of : List Entry → List (Option ClipView)
clips_of entries = map (λ entry. readable entry.clip) entries
