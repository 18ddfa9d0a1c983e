use Rattle.play_outside.proofs.Gathering.{Sends-gathered}
use Rattle.cmd_print.proofs.command.print.Goals as goal

pub returns-in_err-add_command : goal.returns-in_err-add_command
returns-in_err-add_command g c =
    rw c.from_residual.ensures
    (rw (c.new-text.ensures, c.in_err-add_command.ensures) at c.add_command.ensures).0

pub returns : goal.returns
returns g c = Sends-gathered _ _ _ _ _ _ (rw (c.new-text.ensures, c.in_ok-add_command.ensures) at c.add_command.ensures) c.finish.ensures.sends
