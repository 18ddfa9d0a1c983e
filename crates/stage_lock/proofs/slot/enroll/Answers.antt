use Rattle.std.proofs.Common.{rules}
use Rattle.stage_lock.proofs.Joins.{enrolls}
use Rattle.stage_lock.proofs.slot.enroll.Goals as goal

pub split_seat-requires : goal.split_seat-requires
split_seat-requires c = (search rules, search rules, enrolls _ _ _ c.requires.first.0 c.requires.first.1 c.requires.more)
