use Rattle.std.proofs.Common.{◌≡◌, take}
use Rattle.band_render.specs.Bands.{AreLetIn}
use Rattle.band_render.specs.inner.Drawing.{AreDrawn}
use Rattle.band_render.specs.Rows.{byte_count, rows_of_bands}
use Rattle.band_render.proofs.drawing.draw_bands.Given as goal

-- the bands before this one
abbrev pub invariant-loop-band : goal.invariant-loop-band
invariant-loop-band g l = record {
  entered : AreLetIn (g.G.Gate.entered l.gate) (take l.band-index l.bands);
  start : l.start ≡ byte_count (rows_of_bands (take l.band-index l.bands));
  drawn : AreDrawn l.tick (rows_of_bands (take l.band-index l.bands)) (take l.start l.bytes);
  room : l.room ≡ l.initial.room;
}
