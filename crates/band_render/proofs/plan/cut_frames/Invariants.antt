use Rattle.std.proofs.Common.{◌≡◌, ◌*◌, ◌≤◌, take}
use Rattle.band_render.specs.declared.plan.TheConstants.{MOST_BANDS}
use Rattle.band_render.specs.Rendered.{sizes}
use Rattle.band_render.specs.Rows.{rows_of_bands, rows_of_frames}
use Rattle.band_render.specs.Bands.{AreNumbered}
use Rattle.band_render.specs.inner.Numbers.{fewest_bands}
use Rattle.band_render.proofs.plan.cut_frames.Given as goal

-- the bands of the channels before this one
abbrev pub invariant-loop-at : goal.invariant-loop-at
invariant-loop-at l = record {
  many : l.bands.len ≤ MOST_BANDS * l.at;
  room : l.bands.cap ≡ l.initial.bands.cap;
  numbers : AreNumbered l.bands.items;
  enough : fewest_bands l.workers (sizes (take l.at l.tick.prev.now)) ≤ l.bands.len;
  rows : rows_of_bands l.bands.items ≡ rows_of_frames 1 (sizes (take l.at l.tick.prev.now));
}
