-- The events of runs, one by one.
use Rattle.std.specs.Prelude.{◌<◌, List, ◌++◌, Option, Some, None, replicate}
use Rattle.std.specs.List.{flat_map, AllByRecursion}
use Rattle.play_types.specs.declared.event.Event.{Event}
use Rattle.play_journal.specs.Runs.{Run, events_of}
use Rattle.play_journal.specs.declared.events.EventRun.{EventRun}

-- the events of the rest of a run, and then those of the runs after it
abbrev pub events_left : Option EventRun → List Run → List Event
events_left None runs = flat_map events_of runs
events_left (Some run) runs = replicate run.times run.event.now ++ flat_map events_of runs

-- each of the runs has an event
abbrev pub HaveEvents : List Run → Type 0
HaveEvents runs = AllByRecursion (λ run. 0 < run.times) runs

-- so has the rest of a run
abbrev pub HaveEventsLeft : Option EventRun → List Run → Type 0
HaveEventsLeft None runs = HaveEvents runs
HaveEventsLeft (Some run) runs = (0 < run.times) × HaveEvents runs
