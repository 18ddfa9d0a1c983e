use Rattle.play_schedule.proofs.OneLines.{AreLines-script}
use Rattle.play_schedule.proofs.laws.lines_of_sheets_are_lines.Goals as goal

pub returns : goal.returns
returns c = AreLines-script
