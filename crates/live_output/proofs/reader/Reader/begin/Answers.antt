use Rattle.std.proofs.Common.{refl, rules, arith}
use Rattle.live_output.proofs.Frames.{got_begun, none_begun}
use Rattle.live_output.proofs.reader.Reader.begin.Goals as goal

pub returns-clause-got : goal.returns-clause-got
returns-clause-got g c =
    λ frames last got. got_begun g.W.Write.contents frames c.args.window.now.items c.args.gone c.max-number.result c.in-Some-Some.frame c.args.self.now _ last got
    (none_begun c.args.self.now.under_way (search rules)) (omega (arith, c.max-number.ensures)) (omega (arith, c.max-number.ensures)) (omega (arith, c.in-Some-Some.ensures.0))
    c.in-Some-Some.ensures'.0 c.in-Some-Some.ensures'.1 refl refl refl c.in-Some-Some.ensures.1 c.saturating_add-self.ensures refl refl
