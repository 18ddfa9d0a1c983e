use Rattle.std.specs.Prelude.{flat_map}
use Rattle.play_outside.proofs.Sending.{Fails-before, Sends-then}
use Rattle.osc_status.specs.Status.{layer_lines, layer_statuses, status_line, ticks_message}
use Rattle.status_display.specs.Status.{events_of_tick}
use Rattle.status_display.proofs.status_display.send_status.Goals as goal

pub returns : goal.returns
returns g c =
    let tick = c.args.tick in
    Sends-then c.send_layers.result (status_line tick.number (ticks_message c.args.channel tick.number))
    (flat_map (layer_lines tick.setup.now.names tick.number) (layer_statuses (events_of_tick tick) c.args.channel)) _ _ _
    (rw c.in_ok-write_channel_status.ensures at c.write_channel_status.ensures) c.send_layers.ensures

pub returns-in_err-write_channel_status : goal.returns-in_err-write_channel_status
returns-in_err-write_channel_status g c =
    let tick = c.args.tick in
    rw c.from_residual.ensures
    (Fails-before (status_line tick.number (ticks_message c.args.channel tick.number))
    (flat_map (layer_lines tick.setup.now.names tick.number) (layer_statuses (events_of_tick tick) c.args.channel)) _ _
    (rw c.in_err-write_channel_status.ensures at c.write_channel_status.ensures))
