use Rattle.history_replay.proofs.Fronts.{whole_lines-ended, whole_lines-last, whole_lines-none}
use Rattle.history_replay.proofs.laws.whole_lines_end_with_the_last_line_feed.Goals as goal

pub returns-clause-last : goal.returns-clause-last
returns-clause-last c = whole_lines-last

pub returns-clause-none : goal.returns-clause-none
returns-clause-none c = whole_lines-none

pub returns-clause-ended : goal.returns-clause-ended
returns-clause-ended c = whole_lines-ended
