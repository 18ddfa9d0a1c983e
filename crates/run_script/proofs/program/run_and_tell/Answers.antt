use Rattle.std.proofs.Common.{refl, sym}
use Rattle.run_script.specs.CommandLine.{command_line_view}
use Rattle.run_script.proofs.CommandLines.{line_played, usage_said}
use Rattle.run_script.proofs.Outcomes.{status_ended}
use Rattle.run_script.proofs.program.run_and_tell.Goals as goal
use Rattle.run_script.proofs.program.run_and_tell.Goals.{in-Some, in-None}

pub returns : goal.returns
returns g c = elim c.match-read.branch [
  | in-Some w ↦
      let line = command_line_view w.in-Some.line in
      rw (w.result-is, w.input-is, w.media-is, w.out-is) (line_played _ line w.end.result _ _ (sym w.in-Some.ensures.value)
      (status_ended line w.play-outcome.result w.end.result _ _ _ w.play-outcome.ensures w.end.ensures.status w.end.ensures.said))
  | in-None w ↦
      rw (w.result-is, w.input-is, w.media-is, w.out-is) (rw w.end-in-None.ensures.status (usage_said _ _ _ (sym w.in-None.ensures.value) (refl, refl, w.end-in-None.ensures.said)))
]
