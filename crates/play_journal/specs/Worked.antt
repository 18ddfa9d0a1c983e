-- Short runs, journals and places for the worked examples.
use Rattle.std.specs.Prelude.{ℕ, Bool, [], ◌∷◌}
use Rattle.play_types.specs.declared.command.Cmd.{Cmd}
use Rattle.play_types.specs.declared.event.Event.{Event}
use Rattle.play_types.specs.declared.event.Event.TheVariants.{Do, Tick}
use Rattle.play_types.specs.declared.event.Tag.{Tag}
use Rattle.play_journal.specs.Journal.{JournalView}
use Rattle.play_journal.specs.Places.{Passed}
use Rattle.play_journal.specs.Runs.{Run}

-- an event that happened once
abbrev pub once : Event → Run
once event = record { event = event; times = 1 }

-- two and three ticks
abbrev pub two_ticks : Run
two_ticks = record { event = Tick; times = 2 }

abbrev pub three_ticks : Run
three_ticks = record { event = Tick; times = 3 }

-- a journal that may hold two commands and holds two
abbrev pub full : Tag → Cmd → JournalView
full tag cmd = record { limit = 2; events = Do tag cmd ∷ Tick ∷ Do tag cmd ∷ [] }

-- a place behind `entries` commands and batches and `ticks` ticks after them, and behind a stop if `stopped` is true
abbrev pub place_of : ℕ → ℕ → Bool → Passed
place_of entries ticks stopped = record { entries = entries; ticks = ticks; stopped = stopped }
