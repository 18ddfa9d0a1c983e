use Rattle.std.proofs.Common.{rules}
use Rattle.stage_lock.proofs.Joins.{notes}
use Rattle.stage_lock.proofs.slot.tell.Goals as goal

pub split_seat-requires : goal.split_seat-requires
split_seat-requires c = (search rules, search rules, notes _ _ _)
