use Rattle.std.proofs.Common.{◌≡◌}
use Rattle.cmd_print.proofs.Ticks.{history_of_ticks, history_of_command, history_of_batch, history_of_stop}
use Rattle.cmd_print.proofs.event.add_event.Goals as goal

pub returns-in-Do : goal.returns-in-Do
returns-in-Do g c =
    let once : c.args.times ≡ 1 = rw c.in-Do.is at c.requires in
    rw (c.in-Do.is, once, history_of_command c.args.media.now c.in-Do.tag c.in-Do.cmd) c.add_command_line.ensures

pub returns-in-Batch : goal.returns-in-Batch
returns-in-Batch g c =
    let once : c.args.times ≡ 1 = rw c.in-Batch.is at c.requires in
    rw (c.in-Batch.is, once, history_of_batch c.args.media.now c.in-Batch.tag c.in-Batch.cmds, ← c.as_slice.ensures) c.add_batch.ensures

pub returns-in-Tick : goal.returns-in-Tick
returns-in-Tick g c = rw (c.in-Tick.is, history_of_ticks c.args.media.now c.args.times) c.add_ticks.ensures

pub returns-in-Stop : goal.returns-in-Stop
returns-in-Stop g c =
    let once : c.args.times ≡ 1 = rw c.in-Stop.is at c.requires in
    rw (c.in-Stop.is, once, history_of_stop c.args.media.now c.in-Stop.tag) c.add_stop.ensures
