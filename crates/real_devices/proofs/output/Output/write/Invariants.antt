use Rattle.std.specs.Io.KnownBytes.{Keeps}
use Rattle.real_devices.proofs.output.Output.write.Given as goal

-- a reader that takes nothing leaves the stream as it is
abbrev pub invariant-loop-tries : goal.invariant-loop-tries
invariant-loop-tries g l = Keeps (g.W.Write.contents l.initial.file) (g.W.Write.contents l.file)
