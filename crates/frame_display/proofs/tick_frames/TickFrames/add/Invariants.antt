use Rattle.std.proofs.Common.{◌++◌}
use Rattle.play_outside.specs.Gathered.{Gathered}
use Rattle.frame_display.specs.Frames.{one_text}
use Rattle.script_player.proofs.Ticking.{texts_to}
use Rattle.frame_display.proofs.tick_frames.TickFrames.add.Given as goal

-- the frames of the channels before this one were added
abbrev pub invariant-loop-at : goal.invariant-loop-at
invariant-loop-at g l = Gathered (l.initial.lines ++ texts_to (one_text l.fn.self) l.at) l.lines (g.K.Sink.state l.initial.out) (g.K.Sink.state l.out)
