use Rattle.std.proofs.Common.{◌≡◌}
use Rattle.std.specs.Io.KnownBytes.{Keeps}
use Rattle.playrun.proofs.std_source.StdSourceSource.read.Given as goal

-- an interruption is no fault, and leaves the stream as it is
abbrev pub invariant-loop : goal.invariant-loop
invariant-loop g l = record {
  faults : l.self.faults ≡ l.initial.self.faults;
  stream : Keeps (g.R.Read.remaining l.initial.self.input) (g.R.Read.remaining l.self.input);
}
