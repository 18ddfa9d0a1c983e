use Rattle.std.proofs.Common.{length, ◌-◌, ◌≤◌, ◌++◌, take}
use Rattle.hex.specs.Hex.{encode_lower}
use Rattle.play_outside.specs.Gathered.{Gathered}
use Rattle.frame_writer.proofs.line.add_line.Given as goal

-- the digits of the bytes before the place were added
abbrev pub invariant-loop-at : goal.invariant-loop-at
invariant-loop-at g l = record {
  within : l.at ≤ length l.bytes;
  added : Gathered (l.initial.text ++ encode_lower (take l.at l.bytes)) l.text (g.K.Sink.state l.initial.to) (g.K.Sink.state l.to);
}

abbrev pub decreases-loop-at : goal.decreases-loop-at
decreases-loop-at g l = length l.bytes - l.at
