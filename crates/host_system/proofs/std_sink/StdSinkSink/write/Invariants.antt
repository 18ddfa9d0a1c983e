use Rattle.std.proofs.Common.{◌≡◌}
use Rattle.std.specs.Io.KnownBytes.{Keeps}
use Rattle.host_system.proofs.std_sink.StdSinkSink.write.Given as goal

-- an interruption is no fault, and leaves the stream as it is
abbrev pub invariant-loop : goal.invariant-loop
invariant-loop g l = record {
  faults : l.self.faults ≡ l.initial.self.faults;
  stream : Keeps (g.W.Write.contents l.initial.self.output) (g.W.Write.contents l.self.output);
}
