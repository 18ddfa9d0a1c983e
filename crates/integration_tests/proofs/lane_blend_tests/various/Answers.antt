use Rattle.std.proofs.Common.{◌≡◌, ℕ, ◌+◌, ◌*◌, List, ◌++◌, length, length-append, ap, sym, subst, ◌∙◌, arith}
use Rattle.pixel_math.specs.Pixel.{PixelView, lowered, pixel_bytes}
use Rattle.lane_blend.specs.Rows.{AreLowered, IsLowered}
use Rattle.lane_blend.proofs.Rows.{AreLowered-append}
use Rattle.integration_tests.proofs.lane_blend_tests.various.Goals as goal

IsLowered-lowered : (b g r a : ℕ) → IsLowered (lowered b g r a)
IsLowered-lowered b g r a = record { blue = omega arith; green = omega arith; red = omega arith }

-- a row of n pixels and one more
one_more : (row new bytes : List ℕ) (p : PixelView) (n : ℕ) → new ≡ row ++ bytes → bytes ≡ pixel_bytes p → length row ≡ 4 * n → AreLowered row → IsLowered p
    → (length new ≡ 4 * (n + 1)) × AreLowered new
one_more row new bytes p n added is len low last =
    let whole : new ≡ row ++ pixel_bytes p = added ∙ ap (λ (l : List ℕ). row ++ l) is in
    subst (λ (l : List ℕ). (length l ≡ 4 * (n + 1)) × AreLowered l) (sym whole)
    (omega (arith, length-append row (pixel_bytes p)), AreLowered-append row p (omega arith) low last)

pub loop-column-preserved : goal.loop-column-preserved
loop-column-preserved c =
    one_more c.loop-column.row.items c.extend_from_slice.new.self.items c.bytes.result c.lowered.result c.loop-column._column
    c.in_ok-extend_from_slice.ensures.items c.bytes.ensures c.loop-column.invariant.0 c.loop-column.invariant.1
    (subst IsLowered (sym c.lowered.ensures) (IsLowered-lowered _ _ _ _))
