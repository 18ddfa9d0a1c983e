use Rattle.play_server.proofs.GoesOn.{can_go_on, read_whole}
use Rattle.play_server.proofs.resuming.serve_after.Goals as goal

pub serve_history-requires-clause-goes_on : goal.serve_history-requires-clause-goes_on
serve_history-requires-clause-goes_on g c κs within =
    can_go_on _ _ _ c.requires.names (read_whole _ _ _ _ _ _ c.in_ok-read.was c.read_history-read.ensures.ends)
