use Rattle.std.specs.List.{flat_map}
use Rattle.play_journal.specs.Runs.{events_of}
use Rattle.history_log.proofs.Writing.{IsAddedTo}
use Rattle.history_log.proofs.runs.write_runs.Given as goal

-- the runs before the next one were added
abbrev pub invariant-loop-run : goal.invariant-loop-run
invariant-loop-run g l =
    IsAddedTo l.names (flat_map events_of l.room) l.text (g.K.Sink.state l.initial.log, g.K.Sink.state l.log) l.run-iterator
