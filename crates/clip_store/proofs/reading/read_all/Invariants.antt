use Rattle.std.proofs.Common.{◌≡◌, ◌≤◌, length, map, take}
use Rattle.clip_store.specs.inner.Kept.{file_views}
use Rattle.clip_store.specs.Listing.{Found}
use Rattle.clip_store.specs.declared.reading.TheConstants.{MAX_MEDIA_BYTES}
use Rattle.clip_store.proofs.FilesRead.{HasRead, name_bytes}
use Rattle.clip_store.proofs.reading.read_all.Given as goal

-- the files before this one were read, each counts for a byte at least, and nothing changed in the folder
abbrev pub invariant-loop-file : goal.invariant-loop-file
invariant-loop-file g l = record {
  same : g.M.MediaDir.state l.media ≡ g.M.MediaDir.state l.initial.media;
  count : length l.table ≤ l.total;
  few : l.total ≤ MAX_MEDIA_BYTES;
  names : map name_bytes l.table ≡ map (λ (f : Found). f.name) (take l.file-index (file_views l.files));
  told : HasRead l.folder (g.M.MediaDir.state l.initial.media).files (file_views l.files) (record { count = l.file-index; table = l.table; total = l.total });
}
