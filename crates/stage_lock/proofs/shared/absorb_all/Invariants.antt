use Rattle.std.proofs.Common.{◌≡◌, [], ◌++◌, List, length}
use Rattle.stage_lock.specs.Views.{PassView}
use Rattle.stage_lock.specs.Steps.{HasTaken}
use Rattle.stage_lock.proofs.shared.absorb_all.Given as goal

abbrev pub invariant-loop-pass : goal.invariant-loop-pass
invariant-loop-pass l = record {
  of : l.seat.table_id ≡ l.fn.seat.table_id;
  free : l.seat.me.1 ≡ [];
  taken : (done : List PassView) × (l.fn.passes.items ≡ l.passes.items ++ done) × HasTaken done l.fn.seat.me.0 l.seat.me.0;
}

abbrev pub decreases-loop-pass : goal.decreases-loop-pass
decreases-loop-pass l = length l.passes.items
