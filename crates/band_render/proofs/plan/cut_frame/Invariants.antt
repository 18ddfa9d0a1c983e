use Rattle.std.proofs.Common.{◌≡◌, ◌+◌, ◌*◌, ◌++◌, ◌≤◌}
use Rattle.band_render.specs.declared.weights.TheConstants.{MOST_WEIGHT}
use Rattle.band_render.specs.Rows.{rows_from, rows_of_bands}
use Rattle.band_render.specs.Bands.{AreNumbered}
use Rattle.band_render.proofs.plan.cut_frame.Given as goal

-- the bands above this row but for the last one, which begins above it
abbrev pub invariant-loop-y : goal.invariant-loop-y
invariant-loop-y l = record {
  first : l.first + 1 ≤ l.y;
  made : l.made + 1 ≤ l.cut.count;
  left : l.cut.count + l.y ≤ l.made + 1 + l.size.height;
  above : l.above ≤ MOST_WEIGHT * l.y;
  row : l.row ≤ MOST_WEIGHT;
  many : l.bands.len ≡ l.initial.bands.len + l.made;
  room : l.bands.cap ≡ l.initial.bands.cap;
  numbers : AreNumbered l.initial.bands.items → AreNumbered l.bands.items;
  rows : rows_of_bands l.bands.items ≡ rows_of_bands l.initial.bands.items ++ rows_from l.channel l.size 0 l.first;
}
