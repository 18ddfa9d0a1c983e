use Rattle.std.proofs.Common.{List, subst}
use Rattle.std.specs.List.{AllByRecursion}
use Rattle.play_journal.specs.Runs.{HasItsTimes, Run}
use Rattle.play_journal.proofs.Rooms.{kept_times}
use Rattle.play_journal.proofs.room.LogRoom.runs.Goals as goal

pub returns-clause-times : goal.returns-clause-times
returns-clause-times c =
    subst (λ (runs : List Run). AllByRecursion (λ (run : Run). HasItsTimes run.event run.times) runs) c.self.view_is
    (kept_times c.self.inside.runs.items c.self.inside.cmds.items c.self.invariant.0)
