use Rattle.std.proofs.Common.{◌≡◌, ◌+◌, [], length, vec_capacity}
use Rattle.stage_lock.specs.Seats.{first_of}
use Rattle.stage_lock.specs.Steps.{AreEnrolled}
use Rattle.stage_lock.proofs.shared.enroll_all.Given as goal

abbrev pub invariant-loop-number : goal.invariant-loop-number
invariant-loop-number l = record {
  of : l.first.table_id ≡ l.fn.first.table_id;
  me : l.first.me ≡ (first_of l.fn.first.me.0.sizes l.number, []);
  count : length l.list.items + 1 ≡ l.number;
  capacity : vec_capacity l.list ≡ vec_capacity l.fn.list;
  list : AreEnrolled (record { table_id = l.fn.first.table_id; sizes = l.fn.first.me.0.sizes }) l.list.items;
}
