use Rattle.std.proofs.Common.{◌≡◌, List, subst}
use Rattle.play_types.specs.declared.command.Cmd.{Cmd}
use Rattle.history_model.specs.stage.Answer.{Answered, answer}
use Rattle.play_types.specs.declared.event.Event.TheVariants.{Batch}
use Rattle.play_recorder.specs.inner.Replay.{events_in}
use Rattle.play_recorder.proofs.Refusals.{setup_for, refusal-batch}
use Rattle.play_recorder.proofs.replay.Replay.apply_batch.Goals as goal

pub returns-in-Ok-clause-answer : goal.returns-in-Ok-clause-answer
returns-in-Ok-clause-answer c =
    let setup = setup_for c.args.self.now.stage.channels in
    let events = events_in c.args.self.now in
    refusal-batch setup events c.args.tag c.in-Ok.answer c.args.cmds.now
    (subst (λ (cmds : List Cmd). answer setup events (Batch c.args.tag cmds) ≡ Answered c.in-Ok.answer) c.as_slice.ensures (c.in-Ok.ensures.answer setup))
