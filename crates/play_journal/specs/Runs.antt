-- Runs of events: an event that happened a number of times in a row.
use Rattle.std.specs.Prelude.{◌≡◌, ℕ, ◌<◌, Bool, true, false, ◌&&◌, List, [], ◌∷◌, replicate}
use Rattle.std.specs.List.{flat_map, AllByRecursion}
use Rattle.play_types.specs.declared.event.Event.{Event}
use Rattle.play_types.specs.declared.event.Event.TheVariants.{Do, Batch, Tick, Stop}
use Rattle.play_journal.specs.declared.events.EventRun.{EventRun}

-- an event, and how often it happened
pub record Run : Type 0 where
  pub event : Event
  pub times : ℕ

-- the run of an item
abbrev pub run_of : EventRun → Run
run_of item = record { event = item.event.now; times = item.times }

-- the events of a run
abbrev pub events_of : Run → List Event
events_of run = replicate run.times run.event

-- whether an event is a tick
abbrev pub is_tick : Event → Bool
is_tick (Do tag cmd) = false
is_tick (Batch tag cmds) = false
is_tick Tick = true
is_tick (Stop tag) = false

-- a run of ticks has at least one, and a run of another event has exactly one
abbrev pub HasItsTimes : Event → ℕ → Type 0
HasItsTimes (Do tag cmd) times = times ≡ 1
HasItsTimes (Batch tag cmds) times = times ≡ 1
HasItsTimes Tick times = 0 < times
HasItsTimes (Stop tag) times = times ≡ 1

-- no two neighbours are runs of ticks
abbrev pub AreApart : List Run → Type 0
AreApart [] = Unit {0}
AreApart (run ∷ []) = Unit {0}
AreApart (run ∷ next ∷ runs) = ((is_tick run.event && is_tick next.event) ≡ false) × AreApart (next ∷ runs)

-- these are the runs of the events, each run of ticks as long as possible
pub record AreRuns (runs : List Run) (events : List Event) : Type 0 where
  pub whole : flat_map events_of runs ≡ events
  pub times : AllByRecursion (λ run. HasItsTimes run.event run.times) runs
  pub apart : AreApart runs
