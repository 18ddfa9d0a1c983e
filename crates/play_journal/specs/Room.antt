-- The runs in a room.
use Rattle.std.specs.Prelude.{◌≡◌, ℕ, ◌<◌, ◌≤◌, List, [], ◌∷◌, take, drop, length}
use Rattle.play_types.specs.declared.command.Cmd.{Cmd}
use Rattle.play_types.specs.declared.event.Event.TheVariants as event
use Rattle.play_journal.specs.Reading.{one_run}
use Rattle.play_journal.specs.Runs.{Run}
use Rattle.play_journal.specs.declared.room.KeptRun.{KeptRun}
use Rattle.play_journal.specs.declared.room.KeptRun.TheVariants as kept
use Rattle.play_journal.specs.declared.room.LogRun.{LogRun}
use Rattle.play_journal.specs.declared.room.LogRun.TheVariants.{Do, Batch, Ticks, Stop}

-- the run of an item
abbrev pub logged_run : LogRun → Run
logged_run (Do tag cmd) = one_run (event.Do tag cmd.now)
logged_run (Batch tag cmds) = one_run (event.Batch tag cmds.now)
logged_run (Ticks times) = record { event = event.Tick; times = times }
logged_run (Stop tag) = one_run (event.Stop tag)

-- the runs that are kept, where each batch takes the next of these commands
abbrev pub runs_in : List KeptRun → List Cmd → List Run
runs_in [] cmds = []
runs_in (kept.Do tag cmd ∷ runs) cmds = one_run (event.Do tag cmd) ∷ runs_in runs cmds
runs_in (kept.Batch tag count ∷ runs) cmds = one_run (event.Batch tag (take count cmds)) ∷ runs_in runs (drop count cmds)
runs_in (kept.Ticks times ∷ runs) cmds = record { event = event.Tick; times = times } ∷ runs_in runs cmds
runs_in (kept.Stop tag ∷ runs) cmds = one_run (event.Stop tag) ∷ runs_in runs cmds

-- the batches have these commands and no others, and each run of ticks has a tick
abbrev pub AreKept : List KeptRun → List Cmd → Type 0
AreKept [] cmds = length cmds ≡ 0
AreKept (kept.Do tag cmd ∷ runs) cmds = AreKept runs cmds
AreKept (kept.Batch tag count ∷ runs) cmds = (count ≤ length cmds) × AreKept runs (drop count cmds)
AreKept (kept.Ticks times ∷ runs) cmds = (0 < times) × AreKept runs cmds
AreKept (kept.Stop tag ∷ runs) cmds = AreKept runs cmds
