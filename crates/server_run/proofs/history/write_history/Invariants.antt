use Rattle.server_run.proofs.WriteHistory.{IsAddedTo}
use Rattle.server_run.proofs.history.write_history.Given as goal

-- the runs before the next one were added
abbrev pub invariant-loop-run : goal.invariant-loop-run
invariant-loop-run g l =
    IsAddedTo l.media l.journal.events l.text (g.K.Sink.state l.initial.to, g.K.Sink.state l.to) l.run-iterator
