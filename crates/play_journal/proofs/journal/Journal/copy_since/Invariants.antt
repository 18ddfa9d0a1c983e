use Rattle.std.proofs.Common.{◌≡◌, ◌++◌, List}
use Rattle.play_types.specs.declared.event.Event.{Event}
use Rattle.play_journal.specs.Places.{passed}
use Rattle.play_journal.proofs.Copying.{HaveTimes, IsCopied}
use Rattle.play_journal.proofs.journal.Journal.copy_since.Given as goal

-- the runs before the next one were copied
abbrev pub invariant-loop-run : goal.invariant-loop-run
invariant-loop-run l = record {
  times : HaveTimes l.run-iterator;
  copied : (past later : List Event) → l.self.events ≡ past ++ later → l.initial.place ≡ passed past → IsCopied past later l.place l.room l.run-iterator;
}
