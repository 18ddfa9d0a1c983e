use Rattle.play_recorder.proofs.Recorders.{IsRecordedTo}
use Rattle.play_recorder.proofs.recorder.Recorder.write_frames.Given as goal

-- the events before this one were played, and the frames of the recorded ticks among them were written
abbrev pub invariant-loop-event : goal.invariant-loop-event
invariant-loop-event g l =
    IsRecordedTo l.fn.self l.fn.self.journal.now.events (g.K.Sink.state l.initial.to) (g.K.Sink.state l.to) l.self l.event-iterator
