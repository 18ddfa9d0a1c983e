use Rattle.play_schedule.proofs.EarlyEnds.{ticks-early}
use Rattle.play_schedule.proofs.Timed.{ticks_in-script}
use Rattle.play_schedule.proofs.laws.ticks_of_sheets.Goals as goal

pub returns-clause-script : goal.returns-clause-script
returns-clause-script c = ticks_in-script

pub returns-clause-latest : goal.returns-clause-latest
returns-clause-latest c = ticks-early
