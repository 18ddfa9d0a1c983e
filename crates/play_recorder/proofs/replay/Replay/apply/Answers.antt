use Rattle.play_recorder.specs.inner.Replay.{events_in}
use Rattle.play_recorder.proofs.Refusals.{setup_for, size_of_setup, refusal-command}
use Rattle.play_recorder.proofs.replay.Replay.apply.Goals as goal

pub returns-in-Ok-clause-answer : goal.returns-in-Ok-clause-answer
returns-in-Ok-clause-answer c =
    let channels = c.args.self.now.stage.channels in
    refusal-command (setup_for channels) (events_in c.args.self.now) c.args.tag c.in-Ok.answer c.args.cmd
    (c.in-Ok.ensures.answer (setup_for channels) (size_of_setup channels))
