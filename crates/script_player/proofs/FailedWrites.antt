-- What a failed write leaves.
use Rattle.std.proofs.Common.{ℕ, List, ap, arith}
use Rattle.play_outside.specs.Faults.{Rose}
use Rattle.play_outside.specs.Sink.{Fails}
use Rattle.play_outside.specs.SinkState.{SinkState}

-- a failed write raises the count of faults
pub fails_rose : (text : List ℕ) (before after : SinkState) → Fails text before after → Rose before.faults after.faults
fails_rose text before after fails = (let is = ap (λ (s : SinkState). s.faults) fails.stopped in omega (arith, is))
