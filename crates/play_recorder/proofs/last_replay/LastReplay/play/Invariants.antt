use Rattle.play_recorder.proofs.LastTicks.{IsFramedTo}
use Rattle.play_recorder.specs.inner.Last.{KnowsFrameDepths}
use Rattle.play_recorder.proofs.last_replay.LastReplay.play.Given as goal

-- the events before this one were played, with the frames of the ticks that are not skipped, and the depths after them are known
abbrev pub invariant-loop-event : goal.invariant-loop-event
invariant-loop-event g l = record {
  framed : IsFramedTo l.fn.self.frames.config.now l.fn.self.frames.media.now l.fn.self.frames.skipped l.journal.events l.self.frames l.event-iterator;
  depths : KnowsFrameDepths l.self;
}
