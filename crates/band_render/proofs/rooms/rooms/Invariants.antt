use Rattle.std.proofs.Common.{◌≡◌, ◌≤◌, All, length}
use Rattle.band_render.proofs.rooms.rooms.Given as goal

-- the rooms so far
abbrev pub invariant-loop-thread : goal.invariant-loop-thread
invariant-loop-thread l = record {
  many : length l.rooms.items ≡ l._thread;
  wide : All (λ room. l.width ≤ room) l.rooms.items;
}
