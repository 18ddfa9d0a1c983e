use Rattle.std.proofs.Common.{arith}
use Rattle.band_render.proofs.Numbers.{numbered_more}
use Rattle.band_render.proofs.plan.push.Goals as goal

pub returns-clause-numbers : goal.returns-clause-numbers
returns-clause-numbers c =
    numbered_more c.args.bands.now.items _ c.push_reserved.new.self.items c.push_reserved.ensures.items (omega (arith, c.len.ensures, c.args.bands.now.ok.0))
