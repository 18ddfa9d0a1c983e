use Rattle.std.proofs.Common.{◌≡◌, ◌-◌, drop}
use Rattle.clip_store.specs.inner.Kept.{file_views}
use Rattle.clip_store.specs.Listing.{first_twice}
use Rattle.clip_store.proofs.names.twice.Given as goal

-- no two files before this index have one name
abbrev pub invariant-loop-at : goal.invariant-loop-at
invariant-loop-at l = first_twice (file_views l.files) ≡ first_twice (file_views (drop (l.at - 1) l.files))
