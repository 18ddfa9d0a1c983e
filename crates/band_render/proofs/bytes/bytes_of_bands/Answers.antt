use Rattle.std.proofs.Common.{◌≡◌, ◌+◌, take, arith}
use Rattle.band_render.specs.Rows.{byte_count, rows_of, rows_of_bands}
use Rattle.band_render.proofs.Bands.{bytes_taken, rows_taken}
use Rattle.band_render.proofs.bytes.bytes_of_bands.Goals as goal

pub overflow_add-count : goal.overflow_add-count
overflow_add-count c =
    let at = c.loop-band.band-index in
    let sum = bytes_taken rows_of c.args.bands.now at c.band-item.result (omega (arith, c.loop-band-test.true)) c.band-item.is in
    let most = rows_taken rows_of c.args.bands.now (at + 1) in
    omega (arith, c.loop-band.invariant, c.bytes_of_band-count.ensures, sum, most, c.requires)

pub loop-band-preserved : goal.loop-band-preserved
loop-band-preserved c =
    let at = c.loop-band.band-index in
    let sum = bytes_taken rows_of c.args.bands.now at c.band-item.result (omega (arith, c.loop-band-test.true)) c.band-item.is in
    let counted : c.loop-band.count + c.bytes_of_band-count.result ≡ byte_count (rows_of_bands (take (at + 1) c.args.bands.now)) =
    omega (arith, c.loop-band.invariant, c.bytes_of_band-count.ensures, sum) in
    counted
