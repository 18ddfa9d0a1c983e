use Rattle.std.proofs.Common.{◌≡◌, take}
use Rattle.band_render.specs.Rows.{byte_count, rows_of_bands}
use Rattle.band_render.proofs.bytes.bytes_of_bands.Given as goal

-- the bytes of the bands before this one
abbrev pub invariant-loop-band : goal.invariant-loop-band
invariant-loop-band l = l.count ≡ byte_count (rows_of_bands (take l.band-index l.bands))
