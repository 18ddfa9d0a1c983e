use Rattle.std.proofs.Common.{◌≡◌}
use Rattle.std.specs.Io.KnownBytes.{Keeps}
use Rattle.real_devices.proofs.file_source.FileSourceSource.read.Given as goal

-- an interruption is no fault, and leaves the stream as it is
abbrev pub invariant-loop : goal.invariant-loop
invariant-loop g l = record {
  faults : l.self.faults ≡ l.initial.self.faults;
  stream : Keeps (g.F.Read.remaining l.initial.self.file) (g.F.Read.remaining l.self.file);
}
