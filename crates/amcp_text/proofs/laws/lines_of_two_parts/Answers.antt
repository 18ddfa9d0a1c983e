use Rattle.amcp_text.proofs.LineLaws.{lines_of-append, IsEnded-append}
use Rattle.amcp_text.proofs.laws.lines_of_two_parts.Goals as goal

pub returns-clause-lines : goal.returns-clause-lines
returns-clause-lines c = lines_of-append

pub returns-clause-ended : goal.returns-clause-ended
returns-clause-ended c = IsEnded-append
