use Rattle.std.proofs.Common.{arith}
use Rattle.std.proofs.lemmas.Grind.{common_steps}
use Rattle.amcp_text.proofs.ReaderLaws.{with_text_whole, with_text_over}
use Rattle.amcp_text.proofs.line_reader.LineReader.keep.Goals as goal

pub returns-then-fits-text : goal.returns-then-fits-text
returns-then-fits-text c = rw (← c.self.view_is) (with_text_over _ c.args.text.now _ (omega (arith, c.self.inside.kept.ok.0)) (grind (arith, common_steps)) (omega (arith, c.self.inside.kept.ok.0)))

pub returns-else-fits-text : goal.returns-else-fits-text
returns-else-fits-text c = rw (← c.self.view_is) (with_text_whole _ c.args.text.now _ (omega (arith, c.self.inside.kept.ok.0)) (grind (arith, common_steps)) (omega (arith, c.self.inside.kept.ok.0)))
