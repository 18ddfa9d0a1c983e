use Rattle.play_outside.proofs.Gathering.{Sends-gathered}
use Rattle.osc_status.proofs.status_message.write_status_message.Goals as goal

pub returns : goal.returns
returns g c = Sends-gathered _ _ _ _ _ _ (rw (c.new-pieces.ensures, c.in_ok-add_message.ensures) at c.add_message.ensures) c.finish.ensures.sends
