use Rattle.std.proofs.Common.{◌<◌, length, arith}
use Rattle.script_player.specs.declared.ending.Halt.TheVariants.{Write}
use Rattle.script_player.proofs.Ticking.{no_texts, text_more, text_stopped}
use Rattle.status_display.specs.Status.{channel_status}
use Rattle.status_display.proofs.status_display.write_statuses.Goals as goal

pub loop-at-init : goal.loop-at-init
loop-at-init g c = no_texts (channel_status c.args.tick) _

pub loop-at-preserved : goal.loop-at-preserved
loop-at-preserved g c =
    text_more (channel_status c.args.tick) c.loop-at.at _ _ _ c.loop-at.invariant (rw c.in_ok-send_status.ensures at c.send_status.ensures)

pub returns-in_err-send_status : goal.returns-in_err-send_status
returns-in_err-send_status g c =
    let many = length c.args.tick.setup.now.config.channels in
    let count = c.requires in
    let inside : c.loop-at.at < many = omega (arith, count, c.channels-at-end.ensures.value, c.loop-at-test.true) in
    rw c.from_residual.ensures
    (text_stopped (channel_status c.args.tick) c.loop-at.at many _ _ _ Write c.loop-at.invariant inside
    (rw c.in_err-send_status.ensures at c.send_status.ensures))
