use Rattle.std.proofs.Common.{◌≡◌, map, take, string_bytes}
use Rattle.clip_store.specs.inner.Kept.{file_views}
use Rattle.clip_store.specs.Listing.{clip_files}
use Rattle.clip_store.proofs.names.named.Given as goal

-- the clip files so far are those among the files that were looked at
abbrev pub invariant-loop-file : goal.invariant-loop-file
invariant-loop-file l = file_views l.files.items ≡ clip_files (map string_bytes (take l.file-index l.listed))
