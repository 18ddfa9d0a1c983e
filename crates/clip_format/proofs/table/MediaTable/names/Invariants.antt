use Rattle.std.proofs.Common.{◌≡◌, take}
use Rattle.clip_format.specs.Table.{media_names}
use Rattle.clip_format.proofs.table.MediaTable.names.Given as goal

-- the names so far are those of the entries before this place
abbrev pub invariant-loop-at : goal.invariant-loop-at
invariant-loop-at l = l.names ≡ media_names (take l.at l.self)
