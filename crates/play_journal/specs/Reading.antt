-- How the runs of a journal are read from its entries.
use Rattle.std.specs.Prelude.{ℕ, zero, suc, List, [], ◌∷◌, ◌++◌, Option, Some, None}
use Rattle.std.specs.List.{flat_map}
use Rattle.play_types.specs.declared.event.Event.{Event}
use Rattle.play_types.specs.declared.event.Event.TheVariants.{Tick}
use Rattle.play_journal.specs.Runs.{Run}
use Rattle.play_journal.specs.declared.entries.Entry.{Entry}

-- an event that happened once
abbrev pub one_run : Event → Run
one_run event = record { event = event; times = 1 }

-- the run of `ticks` ticks, none if there is no tick
abbrev pub tick_runs : ℕ → List Run
tick_runs zero = []
tick_runs (suc n) = record { event = Tick; times = suc n } ∷ []

-- the run of an event, if there is one
abbrev pub event_runs : Option Event → List Run
event_runs None = []
event_runs (Some event) = one_run event ∷ []

-- the runs of an entry
abbrev pub entry_runs : Entry → List Run
entry_runs entry = tick_runs entry.ticks ++ one_run entry.event ∷ []

-- the runs of an event whose ticks were given, of entries, of the ticks after them, and of a stop
abbrev pub runs_left : Option Event → List Entry → ℕ → Option Event → List Run
runs_left next entries after stop = event_runs next ++ (flat_map entry_runs entries ++ (tick_runs after ++ event_runs stop))
