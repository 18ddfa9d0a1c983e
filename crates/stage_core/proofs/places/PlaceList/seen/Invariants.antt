use Rattle.std.proofs.Common.{◌≡◌, ◌+◌, ◌≤◌, drop, filter_map, slice_get}
use Rattle.stage_core.specs.inner.Seen.{seen_of}
use Rattle.stage_core.proofs.places.PlaceList.seen.Given as goal

-- the requested place is among those that are left
abbrev pub invariant-loop-place : goal.invariant-loop-place
invariant-loop-place l = record {
  value : slice_get (filter_map seen_of (drop l.place-index l.fn.self)) l.left ≡ slice_get (filter_map seen_of l.fn.self) l.at;
  passed : l.at ≤ l.left + l.place-index;
}
