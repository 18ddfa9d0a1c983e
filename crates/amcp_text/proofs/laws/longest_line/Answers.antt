use Rattle.std.proofs.Common.{sym, length, refl}
use Rattle.std.proofs.lemmas.Bool.{lt-ltb}
use Rattle.amcp_text.proofs.LineLaws.{line_of_text_utf8}
use Rattle.amcp_text.proofs.laws.longest_line.Goals as goal

pub returns-clause-line : goal.returns-clause-line
returns-clause-line c text short utf8 = sym (line_of_text_utf8 text short utf8)

pub returns-clause-too_long : goal.returns-clause-too_long
returns-clause-too_long c text long = rw (lt-ltb 4096 (length text) long) refl
