use Rattle.std.proofs.Common.{rules}
use Rattle.stage_lock.proofs.Joins.{absorbs}
use Rattle.stage_lock.proofs.Keeps.{settles}
use Rattle.stage_lock.proofs.Steps.{absorbed_at}
use Rattle.stage_lock.proofs.slot.absorb.Goals as goal

pub join_seat-requires : goal.join_seat-requires
join_seat-requires c = (search rules, search rules, search rules, search rules, absorbs _ _ _ _ _ c.requires.rests.2 c.requires.rests.0 c.requires.other.1 c.requires.other.2)

pub load-requires : goal.load-requires
load-requires c = (search rules, search rules, settles _ _ _ _)

pub returns-clause-absorbed : goal.returns-clause-absorbed
returns-clause-absorbed c = absorbed_at c.args.seat.now.me c.join_seat.new.seat.me c.load.new.seat.me c.args.other.me.0 0 0 c.requires.rests.1 c.join_seat.ensures.2 c.load.ensures.2
