use Rattle.std.proofs.Common.{length, ◌-◌, ◌≡◌, ◌≤◌, take}
use Rattle.play_outside.specs.SinkState.{after_taking}
use Rattle.play_outside.proofs.sink.send.Given as goal

-- the bytes before `at` were taken
abbrev pub invariant-loop-at : goal.invariant-loop-at
invariant-loop-at g l = record {
  within : l.at ≤ length l.piece;
  taken : g.K.Sink.state l.to ≡ after_taking (g.K.Sink.state l.initial.to) (take l.at l.piece);
}

abbrev pub decreases-loop-at : goal.decreases-loop-at
decreases-loop-at g l = length l.piece - l.at
