use Rattle.play_outside.proofs.Gathering.{Adds-sent}
use Rattle.play_outside.proofs.gather.Gather.add.Goals as goal

pub returns-then-bytes-clause-adds : goal.returns-then-bytes-clause-adds
returns-then-bytes-clause-adds g c =
    rw c.finish.ensures.none_waits
    (Adds-sent _ _ _ _ _ _ (rw c.in_ok-finish.ensures at c.finish.ensures.sends) c.send.ensures)
