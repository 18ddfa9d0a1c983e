use Rattle.std.proofs.Common.{rules}
use Rattle.stage_lock.proofs.Keeps.{counts}
use Rattle.stage_lock.proofs.slot.count.Goals as goal

pub load-requires : goal.load-requires
load-requires c = (search rules, search rules, counts _ _ _ _ c.requires.holder.0 c.requires.holder.1)
