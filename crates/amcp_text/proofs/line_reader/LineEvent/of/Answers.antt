use Rattle.std.proofs.Common.{ap, ◌∙◌}
use Rattle.std.specs.Str.{chars}
use Rattle.amcp_text.specs.Lines.{Text}
use Rattle.amcp_text.proofs.LineLaws.{line_of_text_utf8, line_of_text_not_utf8}
use Rattle.amcp_text.proofs.line_reader.LineEvent.of.Goals as goal

pub returns-in-Ok : goal.returns-in-Ok
returns-in-Ok c = ap (λ bs. Text (chars bs)) c.in-Ok.ensures.cases.0 ∙ line_of_text_utf8 c.args.text.now c.if-text-gt-MAX_LINE_BYTES.false c.in-Ok.ensures.cases.1

pub returns-in-Err : goal.returns-in-Err
returns-in-Err c = line_of_text_not_utf8 c.args.text.now c.if-text-gt-MAX_LINE_BYTES.false c.in-Err.ensures.cases.0
