use Rattle.std.proofs.Common.{arith}
use Rattle.cmd_print.proofs.Ticks.{history_of_batch, history_of_command, history_of_stop, history_of_ticks}
use Rattle.history_log.proofs.runs.add_run.Goals as goal

pub returns-in-Do : goal.returns-in-Do
returns-in-Do g c = rw (c.in-Do.is, history_of_command c.args.names.now c.in-Do.tag c.in-Do.cmd.now) c.add_command_line.ensures

pub returns-in-Batch : goal.returns-in-Batch
returns-in-Batch g c = rw (c.in-Batch.is, history_of_batch c.args.names.now c.in-Batch.tag c.in-Batch.cmds.now) c.add_batch.ensures

pub add_ticks-requires : goal.add_ticks-requires
add_ticks-requires g c = let some = rw c.in-Ticks.is at c.requires in omega (arith, some)

pub returns-in-Ticks : goal.returns-in-Ticks
returns-in-Ticks g c = rw (c.in-Ticks.is, history_of_ticks c.args.names.now c.in-Ticks.times) c.add_ticks.ensures

pub returns-in-Stop : goal.returns-in-Stop
returns-in-Stop g c = rw (c.in-Stop.is, history_of_stop c.args.names.now c.in-Stop.tag) c.add_stop.ensures
