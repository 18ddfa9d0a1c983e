use Rattle.std.proofs.Common.{◌≡◌, map, filter, take, string_bytes}
use Rattle.std.specs.Prelude.{bytes_eq}
use Rattle.play_outside.proofs.memory.media.names_of.Given as goal

-- the names so far are those of the files that were looked at
abbrev pub invariant-loop-file : goal.invariant-loop-file
invariant-loop-file l =
    map string_bytes l.names.items
    ≡ map (λ file. string_bytes file.name) (filter (λ file. bytes_eq (string_bytes file.folder) l.folder) (take l.file-index l.files))
