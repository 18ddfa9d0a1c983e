use Rattle.std.proofs.Common.{◌≡◌, ◌+◌, ◌-◌, ◌*◌, ◌/◌, ◌%◌, ◌<◌, ap, ◌∙◌, arith}
use Rattle.std.proofs.Math.Nat.{div-add-mod, mod-lt}
use Rattle.band_render.proofs.drawing.shares_before.Goals as goal

pub returns-clause-last : goal.returns-clause-last
returns-clause-last c =
    let groups = c.args.groups in
    let first = c.args.first in
    let each = c.args.bands / groups in
    let others = groups - first in
    let whole : groups * each + c.args.bands % groups ≡ c.args.bands = div-add-mod c.args.bands groups in
    let sum : groups ≡ first + others = omega (arith, c.requires) in
    let rest : c.args.bands % groups < groups = mod-lt c.args.bands (omega (arith, c.requires)) in
    let parts : groups * each ≡ first * each + others * each = ap (λ n. n * each) sum ∙ grind arith in (
      omega (arith, whole, rest, parts, c.min.ensures, c.requires),
      omega (arith, whole, rest, parts, c.min.ensures, c.requires),
    )
