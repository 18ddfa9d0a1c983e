use Rattle.std.proofs.Common.{◌≡◌, ℕ, ◌+◌, ◌%◌, get_or, ap, arith}
use Rattle.pixel_math.specs.Pixel.{pixel_of, pixel_bytes}
use Rattle.pixel_math.proofs.Pixels.{same_pixel}
use Rattle.lane_blend.proofs.Rows.{AreLowered-row}
use Rattle.lane_blend.proofs.Writing.{filled_at, four_pixels, lanes_more, row_fill}
use Rattle.lane_blend.proofs.fill.fill_row.Goals as goal

pub lanes-preserved : goal.lanes-preserved
lanes-preserved c =
    let at = c.lanes.at in
    let pixel : pixel_of c.b-b.result c.g-g.result c.r-r.result c.a-a.result ≡ c.args.pixel =
    same_pixel _ _ c.b-b.ensures.value c.g-g.ensures.value c.r-r.ensures.value c.a-a.ensures.value in
    lanes_more (filled_at c.args.pixel) (filled_at c.args.pixel) c.args.row.now c.lanes.row _ at c.lanes.invariant (omega arith)
    (ap four_pixels pixel)
    (λ j low. let same : j % 4 ≡ (at + j) % 4 = omega (arith, c.lanes.invariant.aligned) in ap (λ (n : ℕ). get_or (pixel_bytes c.args.pixel) n 0) same)

pub returns-clause-lowered : goal.returns-clause-lowered
returns-clause-lowered c =
    let row = c.args.row.now in
    let pixel = c.a-a.ensures.range in
    AreLowered-row _ _ c.bytes.row (row_fill c.args.pixel row c.bytes.row c.bytes.at c.bytes.invariant (omega arith) c.requires)
    (λ i lt. record { blue = pixel.blue; green = pixel.green; red = pixel.red })
