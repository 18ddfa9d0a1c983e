use Rattle.play_outside.proofs.Gathering.{Sends-gathered}
use Rattle.play_outside.proofs.sink.send_parts.Goals as goal

pub returns : goal.returns
returns g c =
    Sends-gathered _ _ _ _ _ _ (rw (c.new-gather.ensures, c.in_ok-add_parts.ensures) at c.add_parts.ensures) c.finish.ensures.sends
