use Rattle.std.proofs.Common.{◌*◌, sym, ◌∙◌}
use Rattle.band_render.proofs.Rows.{byte_count-rows}
use Rattle.band_render.proofs.bytes.bytes_of_band.Goals as goal

pub returns : goal.returns
returns c =
    let band = c.args.band.now in
    (λ i. 4 * c.from.ensures i * c.from-2.ensures i) ∙ sym (byte_count-rows band.channel band.size band.first band.rows)
