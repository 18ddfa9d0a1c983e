use Rattle.std.proofs.Common.{◌≡◌, ◌*◌, take}
use Rattle.band_render.specs.inner.Drawing.{AreDrawn}
use Rattle.band_render.specs.Rows.{rows_from}
use Rattle.band_render.proofs.drawing.draw_rows.Given as goal

-- the rows above this one
abbrev pub invariant-loop-at : goal.invariant-loop-at
invariant-loop-at g l = record {
  drawn : AreDrawn l.tick (rows_from l.band.channel l.band.size l.band.first l.at) (take (l.row_bytes * l.at) l.bytes);
  room : l.room ≡ l.initial.room;
}
