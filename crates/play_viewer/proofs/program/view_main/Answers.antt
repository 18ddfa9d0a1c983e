use Rattle.std.proofs.Common.{ap}
use Rattle.play_viewer.proofs.HasItsCause.{has_its_cause}
use Rattle.play_viewer.proofs.Runs.{ended_with, ended_without_fault}
use Rattle.play_viewer.proofs.program.view_main.Goals as goal

pub returns-in-Ok-clause-runs : goal.returns-in-Ok-clause-runs
returns-in-Ok-clause-runs g c = ended_without_fault _ _ _ (rw c.in-Ok.is at c.view_words.ensures)

pub returns-in-Ok-clause-causes : goal.returns-in-Ok-clause-causes
returns-in-Ok-clause-causes g c = has_its_cause c.first_fault_decides.ensures _ _ _ _ (ended_without_fault _ _ _ (rw c.in-Ok.is at c.view_words.ensures))

pub returns-in-Err-clause-runs : goal.returns-in-Err-clause-runs
returns-in-Err-clause-runs g c =
    ended_with _ c.in-Err.fault _ _ _ _ (rw c.in-Err.is at c.view_words.ensures) c.end_with.ensures.ends (ap g.D.Media.MediaDir.state c.end_with.ensures.folder)

pub returns-in-Err-clause-causes : goal.returns-in-Err-clause-causes
returns-in-Err-clause-causes g c =
    has_its_cause c.first_fault_decides.ensures _ _ _ _
    (ended_with _ c.in-Err.fault _ _ _ _ (rw c.in-Err.is at c.view_words.ensures) c.end_with.ensures.ends (ap g.D.Media.MediaDir.state c.end_with.ensures.folder))
