use Rattle.amcp_text.proofs.LineLaws.{lines_of_return}
use Rattle.amcp_text.proofs.laws.first_line.Goals as goal

pub returns : goal.returns
returns c = lines_of_return
