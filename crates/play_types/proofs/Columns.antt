-- The columns of a transition.
use Rattle.std.proofs.Common.{ℕ, ◌<◌, ◌≤◌, Bool, true, false, arith}
use Rattle.std.proofs.Math.Nat.{div-le_of_le-mul, mul_comm}
use Rattle.std.proofs.lemmas.Bool.Decides.{nat_tests}
use Rattle.std.proofs.lemmas.Nat.{mul-le}
use Rattle.play_types.specs.declared.transition.Kind.{Kind}
use Rattle.play_types.specs.declared.transition.Kind.TheVariants.{Cut, Mix, Push, Slide, Wipe}
use Rattle.play_types.specs.Columns.{taken, pick, IsInRaster}

-- the new picture never takes more columns than there are
pub taken_le : (j d width : ℕ) → j < d → taken j d width ≤ width
taken_le j d width h =
    div-le_of_le-mul d (omega (arith, mul-le width j width d (omega arith) (omega arith), mul_comm width d))

-- a transition shows only columns of the raster
pub IsInRaster-pick : (kind : Kind) (leftward : Bool) (j d width x : ℕ) → j < d → x < width → IsInRaster width (pick kind leftward j d width x)
IsInRaster-pick Cut leftward j d width x h within = within
IsInRaster-pick Mix leftward j d width x h within = within
IsInRaster-pick Push false j d width x h within = let few = taken_le j d width h in grind (arith, nat_tests)
IsInRaster-pick Push true j d width x h within = let few = taken_le j d width h in grind (arith, nat_tests)
IsInRaster-pick Slide false j d width x h within = let few = taken_le j d width h in grind (arith, nat_tests)
IsInRaster-pick Slide true j d width x h within = let few = taken_le j d width h in grind (arith, nat_tests)
IsInRaster-pick Wipe false j d width x h within = let few = taken_le j d width h in grind (arith, nat_tests)
IsInRaster-pick Wipe true j d width x h within = let few = taken_le j d width h in grind (arith, nat_tests)
