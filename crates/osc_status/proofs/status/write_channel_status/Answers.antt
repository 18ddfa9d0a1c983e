use Rattle.play_outside.proofs.Gathering.{Sends-gathered}
use Rattle.osc_status.proofs.status.write_channel_status.Goals as goal

pub returns : goal.returns
returns g c = Sends-gathered _ _ _ _ _ _ (rw (c.new-pieces.ensures, c.in_ok-add_ticks_line.ensures) at c.add_ticks_line.ensures) c.finish.ensures.sends
