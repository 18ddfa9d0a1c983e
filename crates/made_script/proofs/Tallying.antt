-- The events of a journal that are no ticks, counted run by run.
use Rattle.std.proofs.Common.{◌≡◌, ℕ, zero, suc, ◌+◌, ◌<◌, ◌≤◌, List, [], ◌∷◌, ◌++◌, replicate, flat_map, refl, ap, arith}
use Rattle.std.specs.Prelude.{Option, Some}
use Rattle.std.specs.Iterator.{YieldsFirstBy}
use Rattle.std.specs.List.{AllByRecursion}
use Rattle.play_types.specs.History.{IsHistory, held}
use Rattle.play_types.specs.declared.event.Event.{Event}
use Rattle.play_types.specs.declared.event.Event.TheVariants.{Do, Batch, Tick, Stop}
use Rattle.play_journal.specs.Runs.{AreRuns, HasItsTimes, Run, events_of, run_of}
use Rattle.play_journal.specs.declared.events.EventRun.{EventRun}
use Rattle.history_model.specs.scripts.Generator.{events_besides_ticks}

-- the count over two lists of events is the sum of their counts
pub besides-append : (xs ys : List Event) → events_besides_ticks (xs ++ ys) ≡ events_besides_ticks xs + events_besides_ticks ys
besides-append [] ys = omega arith
besides-append (Do tag cmd ∷ xs) ys = omega (arith, besides-append xs ys)
besides-append (Batch tag cmds ∷ xs) ys = omega (arith, besides-append xs ys)
besides-append (Tick ∷ xs) ys = besides-append xs ys
besides-append (Stop tag ∷ xs) ys = omega (arith, besides-append xs ys)

-- each event that is no tick has a command, except a stop at the end
pub besides-held : (events : List Event) → IsHistory events → events_besides_ticks events ≤ held events + 1
besides-held [] history = omega arith
besides-held (Do tag cmd ∷ events) history = let rest = besides-held events history in omega (arith, rest)
besides-held (Batch tag cmds ∷ events) history =
    let rest = besides-held events history.1 in let some = history.0 in omega (arith, rest, some)
besides-held (Tick ∷ events) history = let rest = besides-held events history in omega (arith, rest)
besides-held (Stop tag ∷ events) history = let none = ap events_besides_ticks history in omega (arith, none)

-- these runs are left of some events, and the events before them were counted
pub record IsCounted (events : List Event) (count : ℕ) (runs : List Run) : Type 0 where
  pub whole : count + events_besides_ticks (flat_map events_of runs) ≡ events_besides_ticks events
  pub times : AllByRecursion (λ (run : Run). HasItsTimes run.event run.times) runs

pub none_counted : (events : List Event) (runs : List Run) → AreRuns runs events → IsCounted events 0 runs
none_counted events runs are = let whole = ap events_besides_ticks are.whole in record { whole = omega (arith, whole); times = are.times }

-- the item that was yielded is the first run of those that were left
pub first_of_left : (item : EventRun) (answer : Option EventRun) (before after : List Run) → answer ≡ Some item
    → YieldsFirstBy run_of (λ (rest : List Run). rest) before answer after → before ≡ run_of item ∷ after
first_of_left item answer before after some step = rw some at step

-- what an event adds to the count: nothing for a tick, else one
abbrev pub counted_for : Event → ℕ
counted_for (Do tag cmd) = 1
counted_for (Batch tag cmds) = 1
counted_for Tick = 0
counted_for (Stop tag) = 1

no_ticks : (times : ℕ) → events_besides_ticks (replicate times Tick) ≡ 0
no_ticks zero = refl
no_ticks (suc times) = no_ticks times

run_counts : (event : Event) (times : ℕ) → HasItsTimes event times → events_besides_ticks (replicate times event) ≡ counted_for event
run_counts (Do tag cmd) times one = ap (λ (n : ℕ). events_besides_ticks (replicate n (Do tag cmd))) one
run_counts (Batch tag cmds) times one = ap (λ (n : ℕ). events_besides_ticks (replicate n (Batch tag cmds))) one
run_counts Tick times some = no_ticks times
run_counts (Stop tag) times one = ap (λ (n : ℕ). events_besides_ticks (replicate n (Stop tag))) one

-- the next run is counted
pub one_counted : (events : List Event) (count now : ℕ) (run : Run) (runs : List Run) → IsCounted events count (run ∷ runs)
    → now ≡ count + counted_for run.event → IsCounted events now runs
one_counted events count now run runs so_far is =
    let whole = so_far.whole in
    let parts = besides-append (replicate run.times run.event) (flat_map events_of runs) in
    let here = run_counts run.event run.times so_far.times.0 in
    record { whole = omega (arith, whole, parts, here, is); times = so_far.times.1 }

-- the count is at most the number of events that are no ticks
pub small_count : (events : List Event) (count : ℕ) (runs : List Run) → IsCounted events count runs → count ≤ events_besides_ticks events
small_count events count runs so_far = let whole = so_far.whole in omega (arith, whole)

-- one more than the count is still below this bound
pub fits_one : (events : List Event) (count most : ℕ) (runs : List Run) → IsHistory events → held events < most → IsCounted events count runs → count < most + 1
fits_one events count most runs history few so_far =
    let small = small_count events count runs so_far in
    let bound = besides-held events history in
    omega (arith, small, bound, few)

pub all_counted : (events : List Event) (count : ℕ) → IsCounted events count [] → count ≡ events_besides_ticks events
all_counted events count so_far = let whole = so_far.whole in omega (arith, whole)
