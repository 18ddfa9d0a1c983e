use Rattle.std.proofs.Common.{refl, sym, ap, arith, length, ◌∙◌}
use Rattle.live_output.proofs.Frames.{got_whole}
use Rattle.live_output.proofs.reader.Reader.end.Goals as goal

pub returns-clause-got : goal.returns-clause-got
returns-clause-got g c =
    λ frames got. got_whole g.W.Write.contents frames c.in_ok-frame.frame c.args.self.now _ got (sym c.take.ensures.value ∙ c.in_ok-frame.was)
    (omega (arith, c.if-self-as_slice.false, ap length c.as_slice.ensures)) refl refl refl refl refl c.take.ensures.after refl
