-- How a journal keeps its events.
use Rattle.std.specs.Prelude.{◌≡◌, ℕ, ◌+◌, ◌<◌, ◌≤◌, List, [], ◌∷◌, ◌++◌, length, replicate, Option, Some, None}
use Rattle.std.specs.List.{flat_map, AllByRecursion}
use Rattle.play_types.specs.History.{held, ticks}
use Rattle.play_types.specs.declared.event.Event.{Event}
use Rattle.play_types.specs.declared.event.Event.TheVariants.{Do, Batch, Tick, Stop}
use Rattle.play_types.specs.declared.event.TheConstants.{MAX_TICKS}
use Rattle.play_journal.specs.declared.entries.Entry.{Entry}

-- the events of an entry: its ticks, and then its command or batch
abbrev pub entry_events : Entry → List Event
entry_events entry = replicate entry.ticks Tick ++ entry.event ∷ []

-- the events before the stop: those of the entries, and the ticks after them
abbrev pub events_before : List Entry → ℕ → List Event
events_before entries after = flat_map entry_events entries ++ replicate after Tick

-- the stop, if there is one
abbrev pub stop_events : Option Event → List Event
stop_events None = []
stop_events (Some event) = event ∷ []

-- the events of a journal
abbrev pub kept_events : List Entry → ℕ → Option Event → List Event
kept_events entries after stop = events_before entries after ++ stop_events stop

-- an event that an entry holds: a command, or a batch that is not empty
abbrev pub HoldsCommands : Event → Type 0
HoldsCommands (Do tag cmd) = Unit {0}
HoldsCommands (Batch tag cmds) = 0 < length cmds
HoldsCommands Tick = ⊥
HoldsCommands (Stop tag) = ⊥

-- an event that is a stop
abbrev pub IsStop : Event → Type 0
IsStop (Do tag cmd) = ⊥
IsStop (Batch tag cmds) = ⊥
IsStop Tick = ⊥
IsStop (Stop tag) = Unit {0}

-- nothing, or a stop
abbrev pub IsStopIfAny : Option Event → Type 0
IsStopIfAny None = Unit {0}
IsStopIfAny (Some event) = IsStop event

-- the numbers that a journal keeps: the most commands, those held, the ticks, and the events before the stop
pub record Counts : Type 0 where
  pub limit : ℕ
  pub held : ℕ
  pub ticks : ℕ
  pub before : ℕ

-- the numbers are those of the events
pub record AreCounted (counts : Counts) (entries : List Entry) (after : ℕ) (stop : Option Event) : Type 0 where
  pub commands : AllByRecursion (λ entry. HoldsCommands entry.event) entries
  pub last : IsStopIfAny stop
  pub held : counts.held ≡ held (kept_events entries after stop)
  pub ticks : counts.ticks ≡ ticks (kept_events entries after stop)
  pub before : counts.before ≡ length (events_before entries after)
  pub room : counts.held ≤ counts.limit
  pub time : counts.ticks ≤ MAX_TICKS
  pub few : counts.before ≤ counts.held + counts.ticks
