use Rattle.std.proofs.Common.{◌≡◌, ◌+◌, length, flat_map}
use Rattle.play_journal.specs.Runs.{events_of}
use Rattle.view_status.proofs.counting.event_count.Given as goal

-- the events before the runs that are left were counted
abbrev pub invariant-loop-run : goal.invariant-loop-run
invariant-loop-run l = l.count + length (flat_map events_of l.run-iterator) ≡ length l.journal.events
