use Rattle.std.proofs.Common.{◌≡◌, drop}
use Rattle.osc_status.specs.inner.Reading.{values_at}
use Rattle.osc_status.proofs.Turns.{after_args}
use Rattle.osc_status.proofs.parts.args_of.Given as goal

-- the arguments before this one were read, and those of the other kinds are the rest
abbrev pub invariant-loop-kind : goal.invariant-loop-kind
invariant-loop-kind l = after_args l.args (values_at (drop l.kind-index l.kinds) l.rest) ≡ values_at l.kinds l.bytes
