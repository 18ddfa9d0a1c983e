use Rattle.std.proofs.Common.{◌≡◌, drop}
use Rattle.std.specs.Prelude.{is_some}
use Rattle.osc_status.specs.inner.Reading.{values_at}
use Rattle.osc_status.proofs.parts.are_values.Given as goal

-- the bytes are arguments of all the kinds exactly if the rest is of those from this one on
abbrev pub invariant-loop-kind : goal.invariant-loop-kind
invariant-loop-kind l = is_some (values_at (drop l.kind-index l.kinds) l.rest) ≡ is_some (values_at l.kinds l.bytes)
