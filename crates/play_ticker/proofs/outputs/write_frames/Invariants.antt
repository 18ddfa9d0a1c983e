use Rattle.play_ticker.specs.inner.Writing.{bytes_in}
use Rattle.play_ticker.proofs.Taking.{AllBelow}
use Rattle.play_ticker.proofs.outputs.write_frames.Given as goal

-- the outputs before this one took their frames, and the others took nothing
abbrev pub invariant-loop-at : goal.invariant-loop-at
invariant-loop-at g l = AllBelow g.O.Sink.state (bytes_in l.renderer) l.at l.initial.outs l.outs
