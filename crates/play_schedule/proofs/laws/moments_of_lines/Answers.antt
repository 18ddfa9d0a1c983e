use Rattle.play_schedule.proofs.Timed.{ticks_before-timed, untimed-timed}
use Rattle.play_schedule.proofs.laws.moments_of_lines.Goals as goal

pub returns-clause-lines : goal.returns-clause-lines
returns-clause-lines c = untimed-timed

pub returns-clause-moments : goal.returns-clause-moments
returns-clause-moments c = ticks_before-timed
