-- What a journal has behind a place.
use Rattle.std.specs.Prelude.{ℕ, ◌-◌, Bool, true, false, List, [], ◌∷◌, ◌++◌, replicate, Option, None, drop}
use Rattle.play_types.specs.declared.event.Event.{Event}
use Rattle.play_types.specs.declared.event.Event.TheVariants.{Tick}
use Rattle.play_journal.specs.declared.entries.Entry.{Entry}
use Rattle.play_journal.specs.Kept.{kept_events, stop_events}
use Rattle.play_journal.specs.Places.{Passed}

-- the stop that is left, if it was not passed
abbrev pub stop_left : Bool → Option Event → Option Event
stop_left false stop = stop
stop_left true stop = None

-- the events that are left, if `given` ticks of the first entry were passed, or of those after the last if none is left
abbrev pub events_left : ℕ → List Entry → ℕ → Option Event → List Event
events_left given [] after stop = replicate (after - given) Tick ++ stop_events stop
events_left given (entry ∷ entries) after stop = replicate (entry.ticks - given) Tick ++ (entry.event ∷ kept_events entries after stop)

-- the events that are left after what was passed
abbrev pub left_after : Passed → List Entry → ℕ → Option Event → List Event
left_after p entries after stop = events_left p.ticks (drop p.entries entries) after (stop_left p.stopped stop)
