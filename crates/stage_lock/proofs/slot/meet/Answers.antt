use Rattle.std.proofs.Common.{rules}
use Rattle.stage_lock.proofs.Joins.{meets}
use Rattle.stage_lock.proofs.Keeps.{settles}
use Rattle.stage_lock.proofs.Steps.{met_at}
use Rattle.stage_lock.proofs.slot.meet.Goals as goal

pub join_seat-requires : goal.join_seat-requires
join_seat-requires c = (search rules, search rules, search rules, search rules, meets _ _ _ _ _ c.requires.rests.0 c.requires.note.not_pass)

pub load-requires : goal.load-requires
load-requires c = (search rules, search rules, settles _ _ _ _)

pub returns-clause-met : goal.returns-clause-met
returns-clause-met c = met_at c.args.seat.now.me c.join_seat.new.seat.me c.load.new.seat.me c.args.note.me.0 0 0 c.requires.rests.1 c.join_seat.ensures.2 c.load.ensures.2
