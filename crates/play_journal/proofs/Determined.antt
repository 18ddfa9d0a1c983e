-- Events determine their runs.
use Rattle.std.proofs.Common.{◌≡◌, ℕ, zero, suc, ◌+◌, List, [], ◌∷◌, ◌++◌, replicate, refl, sym, ap, ◌∙◌, subst, arith, if◌then◌else◌}
use Rattle.std.specs.List.{flat_map, AllByRecursion}
use Rattle.play_types.specs.declared.event.Event.{Event}
use Rattle.play_types.specs.declared.event.Event.TheVariants.{Do, Batch, Tick, Stop}
use Rattle.play_journal.specs.Runs.{AreApart, AreRuns, HasItsTimes, Run, events_of, is_tick}

-- a number of ticks, as a run
abbrev ticks_run : ℕ → Run
ticks_run n = record { event = Tick; times = n }

-- runs with one event before them
abbrev with_first : Event → List Run → List Run
with_first (Do tag cmd) runs = record { event = Do tag cmd; times = 1 } ∷ runs
with_first (Batch tag cmds) runs = record { event = Batch tag cmds; times = 1 } ∷ runs
with_first Tick [] = ticks_run 1 ∷ []
with_first Tick (run ∷ runs) = if is_tick run.event then ticks_run (run.times + 1) ∷ runs else ticks_run 1 ∷ run ∷ runs
with_first (Stop tag) runs = record { event = Stop tag; times = 1 } ∷ runs

abbrev runs_of : List Event → List Run
runs_of [] = []
runs_of (event ∷ events) = with_first event (runs_of events)

-- a tick before runs that begin with none
first_tick : (runs : List Run) → AreApart (ticks_run 1 ∷ runs) → with_first Tick runs ≡ ticks_run 1 ∷ runs
first_tick [] apart = refl
first_tick (run ∷ runs) apart =
    ap (λ tick. if tick then ticks_run (run.times + 1) ∷ runs else ticks_run 1 ∷ run ∷ runs) apart.0

-- ticks before runs that begin with none
some_ticks : (n : ℕ) (events : List Event) (runs : List Run) → runs_of events ≡ runs → AreApart (ticks_run 1 ∷ runs) →
    runs_of (replicate (suc n) Tick ++ events) ≡ ticks_run (suc n) ∷ runs
some_ticks zero events runs rest apart = ap (with_first Tick) rest ∙ first_tick runs apart
some_ticks (suc n) events runs rest apart =
    let more : suc n + 1 ≡ suc (suc n) = omega arith in
    ap (with_first Tick) (some_ticks n events runs rest apart) ∙ ap (λ times. ticks_run times ∷ runs) more

-- how many ticks a run has does not matter to its neighbour
apart_of_ticks : (n : ℕ) (runs : List Run) → AreApart (ticks_run n ∷ runs) → AreApart (ticks_run 1 ∷ runs)
apart_of_ticks n [] apart = tt
apart_of_ticks n (run ∷ runs) apart = apart

apart_rest : (run : Run) (runs : List Run) → AreApart (run ∷ runs) → AreApart runs
apart_rest run [] apart = tt
apart_rest run (next ∷ runs) apart = apart.1

-- the runs of a run of events and of those that follow it
one_more : (event : Event) (times : ℕ) (events : List Event) (runs : List Run) → HasItsTimes event times →
    AreApart (record { event = event; times = times } ∷ runs) → runs_of events ≡ runs →
    runs_of (replicate times event ++ events) ≡ record { event = event; times = times } ∷ runs
one_more (Do tag cmd) times events runs one apart rest =
    subst (λ (n : ℕ). runs_of (replicate n (Do tag cmd) ++ events) ≡ record { event = Do tag cmd; times = n } ∷ runs) (sym one)
    (ap (with_first (Do tag cmd)) rest)
one_more (Batch tag cmds) times events runs one apart rest =
    subst (λ (n : ℕ). runs_of (replicate n (Batch tag cmds) ++ events) ≡ record { event = Batch tag cmds; times = n } ∷ runs) (sym one)
    (ap (with_first (Batch tag cmds)) rest)
one_more Tick zero events runs some apart rest = absurd (omega (arith, some))
one_more Tick (suc n) events runs some apart rest = some_ticks n events runs rest (apart_of_ticks (suc n) runs apart)
one_more (Stop tag) times events runs one apart rest =
    subst (λ (n : ℕ). runs_of (replicate n (Stop tag) ++ events) ≡ record { event = Stop tag; times = n } ∷ runs) (sym one)
    (ap (with_first (Stop tag)) rest)

-- runs are those of their events
runs_back : (runs : List Run) → AllByRecursion (λ run. HasItsTimes run.event run.times) runs → AreApart runs →
    runs_of (flat_map events_of runs) ≡ runs
runs_back [] times apart = refl
runs_back (run ∷ runs) times apart =
    one_more run.event run.times (flat_map events_of runs) runs times.0 apart
    (runs_back runs times.1 (apart_rest run runs apart))

pub same_runs : (events : List Event) (runs others : List Run) → AreRuns runs events → AreRuns others events → runs ≡ others
same_runs events runs others one other =
    sym (runs_back runs one.times one.apart) ∙ ap runs_of (one.whole ∙ sym other.whole) ∙ runs_back others other.times other.apart
