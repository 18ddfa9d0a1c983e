-- The runs of a journal are those of its events.
use Rattle.std.proofs.Common.{◌≡◌, ℕ, ◌-◌, zero, suc, Bool, true, false, drop, List, [], ◌∷◌, ◌++◌, replicate, Option, Some, None, refl, sym, ap, ap₂, ◌∙◌, arith, append_assoc, append-nil}
use Rattle.std.specs.Prelude.{◌&&◌}
use Rattle.std.specs.List.{flat_map, AllByRecursion}
use Rattle.std.proofs.lemmas.List.Concat.{flat_map-append}
use Rattle.play_types.specs.declared.event.Event.{Event}
use Rattle.play_types.specs.declared.event.Event.TheVariants.{Do, Batch, Tick, Stop}
use Rattle.play_journal.specs.Runs.{AreApart, AreRuns, HasItsTimes, Run, events_of, is_tick}
use Rattle.play_journal.specs.declared.entries.Entry.{Entry}
use Rattle.play_journal.specs.Kept.{HoldsCommands, IsStop, IsStopIfAny, entry_events, kept_events, stop_events}
use Rattle.play_journal.specs.Reading.{entry_runs, event_runs, one_run, runs_left, tick_runs}
use Rattle.play_journal.specs.inner.Left.{events_left, stop_left}

-- the events of runs
events-ticks : (n : ℕ) → flat_map events_of (tick_runs n) ≡ replicate n Tick
events-ticks zero = refl
events-ticks (suc n) = append-nil (replicate (suc n) Tick)

events-entry : (entry : Entry) → flat_map events_of (entry_runs entry) ≡ entry_events entry
events-entry entry =
    flat_map-append events_of (tick_runs entry.ticks) (one_run entry.event ∷ [])
    ∙ ap (λ run. run ++ entry.event ∷ []) (events-ticks entry.ticks)

events-entries : (entries : List Entry) → flat_map events_of (flat_map entry_runs entries) ≡ flat_map entry_events entries
events-entries [] = refl
events-entries (entry ∷ entries) =
    flat_map-append events_of (entry_runs entry) (flat_map entry_runs entries)
    ∙ ap₂ (λ xs ys. xs ++ ys) (events-entry entry) (events-entries entries)

events-stop : (stop : Option Event) → flat_map events_of (event_runs stop) ≡ stop_events stop
events-stop None = refl
events-stop (Some event) = refl

whole-runs : (entries : List Entry) (after : ℕ) (stop : Option Event) →
    flat_map events_of (runs_left None entries after stop) ≡ kept_events entries after stop
whole-runs entries after stop =
    flat_map-append events_of (flat_map entry_runs entries) (tick_runs after ++ event_runs stop)
    ∙ ap₂ (λ xs ys. xs ++ ys) (events-entries entries)
    (flat_map-append events_of (tick_runs after) (event_runs stop)
    ∙ ap₂ (λ xs ys. xs ++ ys) (events-ticks after) (events-stop stop))
    ∙ sym (append_assoc (flat_map entry_events entries) (replicate after Tick) (stop_events stop))

-- each run has its times
abbrev HaveTimes : List Run → Type 0
HaveTimes runs = AllByRecursion (λ run. HasItsTimes run.event run.times) runs

times-append : (xs ys : List Run) → HaveTimes xs → HaveTimes ys → HaveTimes (xs ++ ys)
times-append [] ys some more = more
times-append (x ∷ xs) ys some more = (some.0, times-append xs ys some.1 more)

times-ticks : (n : ℕ) → HaveTimes (tick_runs n)
times-ticks zero = tt
times-ticks (suc n) = (omega arith, tt)

times-one : (event : Event) → HasItsTimes event 1
times-one (Do tag cmd) = refl
times-one (Batch tag cmds) = refl
times-one Tick = omega arith
times-one (Stop tag) = refl

times-entries : (entries : List Entry) → HaveTimes (flat_map entry_runs entries)
times-entries [] = tt
times-entries (entry ∷ entries) =
    times-append (entry_runs entry) (flat_map entry_runs entries)
    (times-append (tick_runs entry.ticks) (one_run entry.event ∷ []) (times-ticks entry.ticks) (times-one entry.event, tt))
    (times-entries entries)

times-stop : (stop : Option Event) → HaveTimes (event_runs stop)
times-stop None = tt
times-stop (Some event) = (times-one event, tt)

-- no two runs of ticks are neighbours
no_tick : (event : Event) → HoldsCommands event → is_tick event ≡ false
no_tick (Do tag cmd) holds = refl
no_tick (Batch tag cmds) holds = refl
no_tick Tick holds = absurd holds
no_tick (Stop tag) holds = absurd holds

stop_no_tick : (event : Event) → IsStop event → is_tick event ≡ false
stop_no_tick (Do tag cmd) stops = absurd stops
stop_no_tick (Batch tag cmds) stops = absurd stops
stop_no_tick Tick stops = absurd stops
stop_no_tick (Stop tag) stops = refl

apart-event : (event : Event) (runs : List Run) → is_tick event ≡ false → AreApart runs → AreApart (one_run event ∷ runs)
apart-event event [] other apart = tt
apart-event event (next ∷ runs) other apart = (ap (λ b. b && is_tick next.event) other, apart)

apart-ticks : (n : ℕ) (event : Event) (runs : List Run) → is_tick event ≡ false → AreApart (one_run event ∷ runs) →
    AreApart (tick_runs n ++ one_run event ∷ runs)
apart-ticks zero event runs other apart = apart
apart-ticks (suc n) event runs other apart = (other, apart)

apart-entries : (entries : List Entry) (runs : List Run) → AllByRecursion (λ entry. HoldsCommands entry.event) entries →
    AreApart runs → AreApart (flat_map entry_runs entries ++ runs)
apart-entries [] runs hold apart = apart
apart-entries (entry ∷ entries) runs hold apart =
    let other : is_tick entry.event ≡ false = no_tick entry.event hold.0 in
    let rest : List Run = flat_map entry_runs entries ++ runs in
    let later : AreApart rest = apart-entries entries runs hold.1 apart in
    rw (append_assoc (entry_runs entry) (flat_map entry_runs entries) runs, append_assoc (tick_runs entry.ticks) (one_run entry.event ∷ []) rest)
    (apart-ticks entry.ticks entry.event rest other (apart-event entry.event rest other later))

apart-end : (after : ℕ) (stop : Option Event) → IsStopIfAny stop → AreApart (tick_runs after ++ event_runs stop)
apart-end zero None last = tt
apart-end (suc n) None last = tt
apart-end zero (Some event) last = tt
apart-end (suc n) (Some event) last = (stop_no_tick event last, tt)

-- the runs that are read are those of the events
pub are_runs : (entries : List Entry) (after : ℕ) (stop : Option Event) → AllByRecursion (λ entry. HoldsCommands entry.event) entries →
    IsStopIfAny stop → AreRuns (runs_left None entries after stop) (kept_events entries after stop)
are_runs entries after stop hold last = record {
  whole = whole-runs entries after stop;
  times = times-append (flat_map entry_runs entries) (tick_runs after ++ event_runs stop) (times-entries entries)
      (times-append (tick_runs after) (event_runs stop) (times-ticks after) (times-stop stop));
  apart = apart-entries entries (tick_runs after ++ event_runs stop) hold (apart-end after stop last);
}

-- the runs that are read behind a place among ticks before an entry are those of the events that are left
pub resumed_runs : (given : ℕ) (entry : Entry) (entries : List Entry) (after : ℕ) (stop : Option Event)
    → AllByRecursion (λ (e : Entry). HoldsCommands e.event) (entry ∷ entries) → IsStopIfAny stop
    → AreRuns (tick_runs (entry.ticks - given) ++ runs_left (Some entry.event) entries after stop) (events_left given (entry ∷ entries) after stop)
resumed_runs given entry entries after stop hold last =
    let left = entry.ticks - given in
    let later = runs_left None entries after stop in
    let are = are_runs entries after stop hold.1 last in
    let other = no_tick entry.event hold.0 in
    record {
      whole =
          flat_map-append events_of (tick_runs left) (one_run entry.event ∷ later)
          ∙ ap₂ (λ xs ys. xs ++ ys) (events-ticks left) (ap (λ events. entry.event ∷ events) are.whole);
      times = times-append (tick_runs left) (one_run entry.event ∷ later) (times-ticks left) (times-one entry.event, are.times);
      apart = apart-ticks left entry.event later other (apart-event entry.event later other are.apart);
    }

-- the runs that are read behind a place after the last entry are those of the events that are left
pub last_runs : (given after : ℕ) (stop : Option Event) → IsStopIfAny stop → AreRuns (runs_left None [] (after - given) stop) (events_left given [] after stop)
last_runs given after stop last = are_runs [] (after - given) stop tt last

-- without the first k, entries that hold commands still do
pub hold-drop : (k : ℕ) (entries : List Entry) → AllByRecursion (λ (e : Entry). HoldsCommands e.event) entries
    → AllByRecursion (λ (e : Entry). HoldsCommands e.event) (drop k entries)
hold-drop zero entries hold = hold
hold-drop (suc k) [] hold = tt
hold-drop (suc k) (entry ∷ entries) hold = hold-drop k entries hold.1

pub stop-left : (stopped : Bool) (stop : Option Event) → IsStopIfAny stop → IsStopIfAny (stop_left stopped stop)
stop-left false stop last = last
stop-left true stop last = tt

-- each run that is read has its times, wherever the reading begins
pub times-left : (entries : List Entry) (after : ℕ) (stop : Option Event)
    → AllByRecursion (λ (run : Run). HasItsTimes run.event run.times) (runs_left None entries after stop)
times-left entries after stop =
    times-append (flat_map entry_runs entries) (tick_runs after ++ event_runs stop) (times-entries entries)
    (times-append (tick_runs after) (event_runs stop) (times-ticks after) (times-stop stop))

pub times-resumed : (given : ℕ) (event : Event) (entries : List Entry) (after : ℕ) (stop : Option Event)
    → AllByRecursion (λ (run : Run). HasItsTimes run.event run.times) (tick_runs given ++ runs_left (Some event) entries after stop)
times-resumed given event entries after stop =
    times-append (tick_runs given) (runs_left (Some event) entries after stop) (times-ticks given)
    (times-one event, times-left entries after stop)
