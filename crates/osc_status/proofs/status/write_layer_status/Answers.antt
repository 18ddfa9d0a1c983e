use Rattle.std.proofs.Common.{[], ◌++◌}
use Rattle.play_outside.proofs.Gathering.{Sends-gathered}
use Rattle.play_outside.proofs.Following.{added-then, added-left, gathered-left}
use Rattle.play_outside.specs.declared.sink.Sent.TheVariants.{All}
use Rattle.osc_status.specs.Status.{frame_message, paused_message, producer_message, status_line}
use Rattle.osc_status.proofs.StatusLines.{three-lines}
use Rattle.osc_status.proofs.status.write_layer_status.Goals as goal

pub returns-in_err-add_line : goal.returns-in_err-add_line
returns-in_err-add_line g c =
    rw (three-lines c.args.names.now c.args.ticks c.args.layer.now)
    (gathered-left _ _ _ _ _ _
    (added-left _ _ [] (status_line c.args.ticks (producer_message c.args.names.now c.args.layer.now)) (status_line c.args.ticks (frame_message c.args.layer.now) ++ status_line c.args.ticks (paused_message c.args.layer.now)) _ _ _
    (rw c.new-pieces.ensures at c.add_line.ensures) c.in_err-add_line.ensures c.from_residual.ensures) c.from_residual.ensures c.from_residual.ensures)

pub returns-in_err-add_line-2 : goal.returns-in_err-add_line-2
returns-in_err-add_line-2 g c =
    rw (three-lines c.args.names.now c.args.ticks c.args.layer.now)
    (gathered-left _ _ _ _ _ _
    (added-then _ [] (status_line c.args.ticks (producer_message c.args.names.now c.args.layer.now)) (status_line c.args.ticks (frame_message c.args.layer.now) ++ status_line c.args.ticks (paused_message c.args.layer.now)) _ _ _ _ _
    (rw (c.new-pieces.ensures, c.in_ok-add_line.ensures) at c.add_line.ensures)
    (added-left _ _ _ (status_line c.args.ticks (frame_message c.args.layer.now)) (status_line c.args.ticks (paused_message c.args.layer.now)) _ _ _
    c.add_line-2.ensures c.in_err-add_line-2.ensures c.from_residual-in_err-add_line-2.ensures)) c.from_residual-in_err-add_line-2.ensures c.from_residual-in_err-add_line-2.ensures)

pub returns-in_err-add_line-3 : goal.returns-in_err-add_line-3
returns-in_err-add_line-3 g c =
    rw (three-lines c.args.names.now c.args.ticks c.args.layer.now)
    (gathered-left _ _ _ _ _ _
    (added-then _ [] (status_line c.args.ticks (producer_message c.args.names.now c.args.layer.now)) (status_line c.args.ticks (frame_message c.args.layer.now) ++ status_line c.args.ticks (paused_message c.args.layer.now)) _ _ _ _ _
    (rw (c.new-pieces.ensures, c.in_ok-add_line.ensures) at c.add_line.ensures)
    (added-then _ _ (status_line c.args.ticks (frame_message c.args.layer.now)) (status_line c.args.ticks (paused_message c.args.layer.now)) _ _ _ _ _
    (rw c.in_ok-add_line-2.ensures at c.add_line-2.ensures) c.add_line-3.ensures)) c.in_err-add_line-3.ensures c.from_residual-in_err-add_line-3.ensures)

pub returns : goal.returns
returns g c =
    rw (three-lines c.args.names.now c.args.ticks c.args.layer.now)
    (Sends-gathered _ _ _ _ _ _
    (added-then All [] (status_line c.args.ticks (producer_message c.args.names.now c.args.layer.now)) (status_line c.args.ticks (frame_message c.args.layer.now) ++ status_line c.args.ticks (paused_message c.args.layer.now)) _ _ _ _ _
    (rw (c.new-pieces.ensures, c.in_ok-add_line.ensures) at c.add_line.ensures)
    (added-then All _ (status_line c.args.ticks (frame_message c.args.layer.now)) (status_line c.args.ticks (paused_message c.args.layer.now)) _ _ _ _ _
    (rw c.in_ok-add_line-2.ensures at c.add_line-2.ensures) (rw c.in_ok-add_line-3.ensures at c.add_line-3.ensures)))
    c.finish.ensures.sends)
