use Rattle.play_recorder.specs.inner.Replay.{new_stage}
use Rattle.play_recorder.proofs.LastTicks.{framed_stage}
use Rattle.play_recorder.proofs.Playing.{next_can}
use Rattle.play_recorder.proofs.last_replay.LastReplay.play.Goals as goal

pub event-requires-clause-can : goal.event-requires-clause-can
event-requires-clause-can g c κs within =
    next_can (new_stage c.args.self.now.frames.config.now) c.args.journal.now.events c.loop-event.self.frames.played.stage c.in-Some.event.now c.next.new.self
    (rw c.in-Some.ensures.steps at c.loop-event.invariant.framed.played) c.requires.can

pub returns-clause-stage : goal.returns-clause-stage
returns-clause-stage g c =
    let replay = c.args.self.now.frames in
    framed_stage replay.config.now replay.media.now replay.skipped c.args.journal.now.events c.loop-event.self.frames
    (rw c.in-None.ensures.steps.0 at c.loop-event.invariant.framed)
