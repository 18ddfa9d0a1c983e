use Rattle.std.proofs.Common.{◌≡◌}
use Rattle.play_recorder.specs.Finder.{Represents}
use Rattle.play_recorder.specs.inner.Replay.{HasScenes, events_in}
use Rattle.play_recorder.proofs.Playing.{IsPlayedTo}
use Rattle.play_recorder.proofs.finding.film_in.Given as goal

-- the events before this one were played, and the finder represents them
abbrev pub invariant-loop-event : goal.invariant-loop-event
invariant-loop-event l = record {
  scenes : HasScenes l.replay;
  played : IsPlayedTo l.fn.replay.stage l.journal.events l.replay.stage l.event-iterator;
  name : l.finder.name ≡ l.fn.name;
  represents : Represents l.finder (events_in l.replay);
}
