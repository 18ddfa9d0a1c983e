use Rattle.std.proofs.Common.{◌≡◌, ◌*◌, ◌≤◌, length, map, take}
use Rattle.band_render.specs.declared.plan.TheConstants.{MOST_BANDS}
use Rattle.band_render.specs.Rows.{rows_of_bands, rows_of_frames, size_of}
use Rattle.band_render.proofs.plan.whole_frames.Given as goal

-- the bands of the channels before this one
abbrev pub invariant-loop-at : goal.invariant-loop-at
invariant-loop-at l = record {
  many : l.bands.len ≡ l.at;
  room : MOST_BANDS * length l.channels ≤ l.bands.cap;
  rows : rows_of_bands l.bands.items ≡ rows_of_frames 1 (map size_of (take l.at l.channels));
}
