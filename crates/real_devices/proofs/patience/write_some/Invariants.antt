use Rattle.std.specs.Io.KnownBytes.{Keeps}
use Rattle.real_devices.proofs.patience.write_some.Given as goal

-- an interruption and a wait leave the stream as it is
abbrev pub invariant-loop : goal.invariant-loop
invariant-loop g l = Keeps (g.W.Write.contents l.initial.output) (g.W.Write.contents l.output)
