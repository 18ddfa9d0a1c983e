-- Copying what is behind a place, run by run.
use Rattle.std.proofs.Common.{◌≡◌, ℕ, ◌+◌, ◌<◌, ◌≤◌, ◌^◌, zero, suc, Bool, true, false, List, [], ◌∷◌, ◌++◌, replicate, length, refl, sym, ap, ◌∙◌, subst, arith, append_assoc, append-nil, length-append}
use Rattle.std.specs.Prelude.{Option, Some}
use Rattle.std.specs.Iterator.{YieldsFirstBy}
use Rattle.std.specs.List.{flat_map, AllByRecursion}
use Rattle.std.proofs.lemmas.List.{length-replicate}
use Rattle.std.proofs.lemmas.List.Concat.{flat_map-append}
use Rattle.play_types.specs.History.{IsHistory, held_by}
use Rattle.play_types.specs.declared.event.Event.{Event}
use Rattle.play_types.specs.declared.event.Event.TheVariants.{Do, Batch, Tick, Stop}
use Rattle.play_journal.specs.Places.{Copies, Passed, none_passed, passed, passed_more}
use Rattle.play_journal.specs.Runs.{AreApart, AreRuns, HasItsTimes, Run, events_of, run_of}
use Rattle.play_journal.specs.declared.events.EventRun.{EventRun}
use Rattle.play_journal.specs.declared.room.TheConstants.{ROOM_COMMANDS}
use Rattle.play_journal.proofs.Places.{last_behind, passed-append, passed_within}

abbrev pub HaveTimes : List Run → Type 0
HaveTimes runs = AllByRecursion (λ (run : Run). HasItsTimes run.event run.times) runs

-- of the runs of the later events `runs` were copied, the place is behind them, and `left` are left
pub record IsCopied (past later : List Event) (place : Passed) (runs left : List Run) : Type 0 where
  pub are : AreRuns (runs ++ left) later
  pub at : place ≡ passed (past ++ flat_map events_of runs)

-- the first of several runs are the runs of their events
times_front : (xs ys : List Run) → HaveTimes (xs ++ ys) → HaveTimes xs
times_front [] ys times = tt
times_front (x ∷ xs) ys times = (times.0, times_front xs ys times.1)

times_back : (xs ys : List Run) → HaveTimes (xs ++ ys) → HaveTimes ys
times_back [] ys times = times
times_back (x ∷ xs) ys times = times_back xs ys times.1

apart_front : (xs ys : List Run) → AreApart (xs ++ ys) → AreApart xs
apart_front [] ys apart = tt
apart_front (x ∷ []) ys apart = tt
apart_front (x ∷ y ∷ xs) ys apart = (apart.0, apart_front (y ∷ xs) ys apart.1)

front_runs : (xs ys : List Run) (later : List Event) → AreRuns (xs ++ ys) later → AreRuns xs (flat_map events_of xs)
front_runs xs ys later are = record { whole = refl; times = times_front xs ys are.times; apart = apart_front xs ys are.apart }

-- a run has an event
some_times : (event : Event) (times : ℕ) → HasItsTimes event times → 0 < times
some_times (Do tag cmd) times has = omega (arith, has)
some_times (Batch tag cmds) times has = omega (arith, has)
some_times Tick times has = has
some_times (Stop tag) times has = omega (arith, has)

some_events : (run : Run) (runs : List Run) → HasItsTimes run.event run.times → 0 < length (flat_map events_of (run ∷ runs))
some_events run runs has =
    omega (arith, length-append (events_of run) (flat_map events_of runs), length-replicate {A = Event} run.times run.event, some_times run.event run.times has)

no_events : (runs : List Run) → HaveTimes runs → flat_map events_of runs ≡ [] → runs ≡ []
no_events [] times none = refl
no_events (run ∷ runs) times none = absurd (omega (arith, some_events run runs times.0, ap (λ (es : List Event). length es) none))

first_event : (event : Event) (times : ℕ) (rest : List Event) (first : Event) (more : List Event) → 0 < times
    → replicate times event ++ rest ≡ first ∷ more → event ≡ first
first_event event zero rest first more some eq = absurd (omega (arith, some))
first_event event (suc n) rest first more some eq = cc (eq)

-- the item that was yielded is the first run of those that were left
pub first_of_left : (item : EventRun) (answer : Option EventRun) (before after : List Run) → answer ≡ Some item
    → YieldsFirstBy run_of (λ (rest : List Run). rest) before answer after → before ≡ run_of item ∷ after
first_of_left item answer before after some step = rw some at step

-- before the first run nothing was copied
pub none_copied : (past later : List Event) (place : Passed) (runs left : List Run) → runs ≡ [] → place ≡ passed past → AreRuns left later
    → IsCopied past later place runs left
none_copied past later place runs left none at are = record {
  are = subst (λ (rs : List Run). AreRuns (rs ++ left) later) (sym none) are;
  at = at ∙ ap passed (sym (append-nil past)) ∙ ap (λ (rs : List Run). passed (past ++ flat_map events_of rs)) (sym none);
}

-- the whole of what follows
whole_of : (past later : List Event) (place : Passed) (runs left : List Run) → IsCopied past later place runs left
    → later ≡ flat_map events_of runs ++ flat_map events_of left
whole_of past later place runs left copied = sym copied.are.whole ∙ flat_map-append events_of runs left

-- the numbers of a place stay small, also behind the next run
pub few_passed : (past later : List Event) (place : Passed) (runs : List Run) (run : Run) (left : List Run) → IsCopied past later place runs (run ∷ left)
    → length (past ++ later) < 2 ^ 50 → (place.entries + 1 < 2 ^ 64) × (place.ticks + run.times < 2 ^ 64)
few_passed past later place runs run left copied few =
    let es = flat_map events_of runs in
    let here = passed_within (past ++ es) in
    let whole = ap (λ (xs : List Event). length xs) (whole_of past later place runs (run ∷ left) copied) in
    let entries = ap (λ (p : Passed). p.entries) copied.at in
    let ticks = ap (λ (p : Passed). p.ticks) copied.at in
    let a = length-append past es in
    let b = length-append past later in
    let d = length-append es (flat_map events_of (run ∷ left)) in
    let e = length-append (events_of run) (flat_map events_of left) in
    let f = length-replicate {A = Event} run.times run.event in
    (omega (arith, few, here.0, whole, entries, a, b, d, e, f), omega (arith, few, here.1, whole, ticks, a, b, d, e, f))

-- one more run was copied
pub one_copied : (past later : List Event) (place new : Passed) (runs more : List Run) (run : Run) (left : List Run) → IsCopied past later place runs (run ∷ left)
    → more ≡ runs ++ run ∷ [] → new ≡ passed_more place (events_of run) → IsCopied past later new more left
one_copied past later place new runs more run left copied added at = record {
  are = subst (λ (rs : List Run). AreRuns rs later) (sym (append_assoc runs (run ∷ []) left) ∙ ap (λ (rs : List Run). rs ++ left) (sym added)) copied.are;
  at =
      let events : flat_map events_of more ≡ flat_map events_of runs ++ events_of run =
      ap (λ (rs : List Run). flat_map events_of rs) added
      ∙ flat_map-append events_of runs (run ∷ [])
      ∙ ap (λ (es : List Event). flat_map events_of runs ++ es) (append-nil (events_of run)) in
      at
      ∙ ap (λ (p : Passed). passed_more p (events_of run)) copied.at
      ∙ sym (passed-append none_passed (past ++ flat_map events_of runs) (events_of run))
      ∙ ap passed (append_assoc past (flat_map events_of runs) (events_of run) ∙ ap (λ (es : List Event). past ++ es) (sym events));
}

-- nothing is left behind a stop
nothing_left : (past later : List Event) (place : Passed) (runs left : List Run) → IsCopied past later place runs left → IsHistory (past ++ later)
    → place.stopped ≡ true → flat_map events_of left ≡ []
nothing_left past later place runs left copied history stops =
    let whole : past ++ later ≡ (past ++ flat_map events_of runs) ++ flat_map events_of left =
    ap (λ (es : List Event). past ++ es) (whole_of past later place runs left copied)
    ∙ sym (append_assoc past (flat_map events_of runs) (flat_map events_of left)) in
    last_behind (past ++ flat_map events_of runs) (flat_map events_of left) (subst IsHistory whole history)
    (ap (λ (p : Passed). p.stopped) (sym copied.at) ∙ stops)

-- all was copied
pub all_copied : (past later : List Event) (place : Passed) (runs left : List Run) → IsCopied past later place runs left → left ≡ []
    → IsHistory (past ++ later) → Copies past later true place runs
all_copied past later place runs left copied none history =
    let nothing : flat_map events_of left ≡ [] = ap (λ (rs : List Run). flat_map events_of rs) none in
    record {
      part = flat_map events_of runs;
      rest = flat_map events_of left;
      whole = whole_of past later place runs left copied;
      are = front_runs runs left later copied.are;
      place = copied.at;
      all = (λ _. nothing, λ _. refl);
      some = λ event more first _ empty. absurd (cc (first, whole_of past later place runs left copied, nothing, empty));
      stop = λ _. nothing;
    }

-- the next run found no room
pub part_copied : (past later : List Event) (place : Passed) (runs : List Run) (run : Run) (left : List Run) → IsCopied past later place runs (run ∷ left)
    → (runs ≡ [] → held_by run.event ≤ ROOM_COMMANDS → ⊥) → IsHistory (past ++ later) → Copies past later false place runs
part_copied past later place runs run left copied full history =
    let times = times_back runs (run ∷ left) copied.are.times in
    let some = some_events run left times.0 in
    record {
      part = flat_map events_of runs;
      rest = flat_map events_of (run ∷ left);
      whole = whole_of past later place runs (run ∷ left) copied;
      are = front_runs runs (run ∷ left) later copied.are;
      place = copied.at;
      all = (λ yes. absurd (cc (yes)), λ none. absurd (omega (arith, some, ap (λ (es : List Event). length es) none)));
      some = λ event more first fits empty.
          let none : runs ≡ [] = no_events runs (times_front runs (run ∷ left) copied.are.times) empty in
          let next : events_of run ++ flat_map events_of left ≡ event ∷ more =
          sym (whole_of past later place runs (run ∷ left) copied ∙ ap (λ (es : List Event). es ++ flat_map events_of (run ∷ left)) empty) ∙ first in
          let same : run.event ≡ event = first_event run.event run.times (flat_map events_of left) event more (some_times run.event run.times times.0) next in
          full none (subst (λ (e : Event). held_by e ≤ ROOM_COMMANDS) (sym same) fits);
      stop = nothing_left past later place runs (run ∷ left) copied history;
    }
