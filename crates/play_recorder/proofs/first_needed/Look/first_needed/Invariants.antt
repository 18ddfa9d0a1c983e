use Rattle.std.proofs.Common.{◌≡◌}
use Rattle.play_recorder.specs.inner.Depths.{KnowsDepths}
use Rattle.play_recorder.specs.inner.Needed.{first_needed, least_needed}
use Rattle.play_recorder.specs.inner.Replay.{events_in}
use Rattle.play_recorder.proofs.Playing.{IsPlayedTo}
use Rattle.play_recorder.proofs.first_needed.Look.first_needed.Given as goal

-- the events before this one were played, and what they need was taken into account
abbrev pub invariant-loop-event : goal.invariant-loop-event
invariant-loop-event l = record {
  depths : KnowsDepths l.self.replay;
  film : l.self.film.now ≡ l.fn.self.film.now;
  played : IsPlayedTo l.fn.self.replay.played.stage l.journal.events l.self.replay.played.stage l.event-iterator;
  first : first_needed l.fn.self.film.now l.journal.events ≡ least_needed l.fn.self.film.now (events_in l.self.replay.played) l.event-iterator l.self.first;
}
