use Rattle.std.proofs.Common.{◌≡◌, map, take}
use Rattle.std.specs.Prelude.{min}
use Rattle.band_render.specs.Plans.{pixel_count, row_count}
use Rattle.band_render.specs.Rows.{size_of}
use Rattle.band_render.proofs.rooms.thread_count.Given as goal

-- the rows of the channels before this one, and their pixels
abbrev pub invariant-loop-at : goal.invariant-loop-at
invariant-loop-at l = record {
  rows : l.rows ≡ min l.workers (row_count (map size_of (take l.at l.channels)));
  pixels : l.pixels ≡ min 64 (pixel_count (map size_of (take l.at l.channels)));
}
