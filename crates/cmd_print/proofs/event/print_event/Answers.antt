use Rattle.play_outside.proofs.Gathering.{Sends-gathered}
use Rattle.cmd_print.proofs.event.print_event.Goals as goal

pub returns-in_err-add_event : goal.returns-in_err-add_event
returns-in_err-add_event g c =
    rw c.from_residual.ensures
    (rw (c.new-text.ensures, c.in_err-add_event.ensures) at c.add_event.ensures).0

pub returns : goal.returns
returns g c = Sends-gathered _ _ _ _ _ _ (rw (c.new-text.ensures, c.in_ok-add_event.ensures) at c.add_event.ensures) c.finish.ensures.sends
