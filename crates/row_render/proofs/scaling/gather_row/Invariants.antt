use Rattle.std.proofs.Common.{◌≡◌, ℕ, ◌<◌, ◌-◌, ◌+◌, ◌*◌, ◌/◌, length}
use Rattle.lane_blend.specs.Rows.{pixel_at}
use Rattle.row_render.proofs.scaling.gather_row.Given as goal

-- the columns so far have their pixels, and the quotient and the rest are those of the next column's number
abbrev pub invariant-columns : goal.invariant-columns
invariant-columns l =
    ((i : ℕ) → i < l.x → pixel_at l.row i ≡ pixel_at l.source ((l.number + i * l.step) / l.divisor))
    × (l.column * l.divisor + l.rest ≡ l.number + l.x * l.step)
    × (l.rest < l.divisor)

abbrev pub decreases-columns : goal.decreases-columns
decreases-columns l = length l.row - l.x
