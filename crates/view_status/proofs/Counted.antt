-- The events of a journal, counted run by run.
use Rattle.std.proofs.Common.{◌≡◌, ◌+◌, List, ◌∷◌, length, flat_map, ap, arith, length-append}
use Rattle.std.proofs.lemmas.List.{length-replicate}
use Rattle.std.specs.Prelude.{Option, Some}
use Rattle.std.specs.Iterator.{YieldsFirstBy}
use Rattle.play_types.specs.declared.event.Event.{Event}
use Rattle.play_journal.specs.Runs.{AreRuns, Run, events_of, run_of}
use Rattle.play_journal.specs.declared.events.EventRun.{EventRun}

-- the events of a run, and those of the runs behind it
pub length_of_runs : (run : Run) (runs : List Run) → length (flat_map events_of (run ∷ runs)) ≡ run.times + length (flat_map events_of runs)
length_of_runs run runs = omega (arith, length-append (events_of run) (flat_map events_of runs), length-replicate run.times run.event)

-- the item that was yielded is the first run of those that were left
pub first_of_left : (item : EventRun) (answer : Option EventRun) (before after : List Run) → answer ≡ Some item
    → YieldsFirstBy run_of (λ (rest : List Run). rest) before answer after → before ≡ run_of item ∷ after
first_of_left item answer before after some step = rw some at step

-- before the first run no event was counted
pub none_counted : (events : List Event) (runs : List Run) → AreRuns runs events → 0 + length (flat_map events_of runs) ≡ length events
none_counted events runs are = let whole = ap length are.whole in omega (arith, whole)
