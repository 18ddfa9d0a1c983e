use Rattle.std.proofs.Common.{◌≡◌, take}
use Rattle.play_outside.specs.SinkState.{after_taking}
use Rattle.frame_digests.specs.Waiting.{lines_text}
use Rattle.frame_digests.proofs.waiting.send_lines.Given as goal

-- the lines before this one were written
abbrev pub invariant-loop-line : goal.invariant-loop-line
invariant-loop-line g l = record {
  written : g.K.Sink.state l.to ≡ after_taking (g.K.Sink.state l.initial.to) (lines_text l.initial.frames (take l.line-index l.lines));
  same : l.frames ≡ l.initial.frames;
}
