use Rattle.std.proofs.Common.{rules, arith}
use Rattle.stage_lock.proofs.Steps.{enters_as, given_after, gives_after}
use Rattle.stage_lock.proofs.slot.enter.Goals as goal

pub fetch_add-requires : goal.fetch_add-requires
fetch_add-requires c = (search rules, search rules, enters_as _ _ _ c.args.seat.now.me c.exchange.new.seat.me c.args.stage c.requires.out c.exchange.ensures.3 c.requires.event c.has_few_events.ensures)

pub store-requires : goal.store-requires
store-requires c =
    (search rules, search rules, gives_after _ _ _ c.args.seat.now.me c.exchange.new.seat.me _ c.args.stage (omega (arith, c.requires.board.slots)) c.requires.out c.exchange.ensures.3 c.fetch_add.ensures.2 c.requires.event)

pub returns-clause-entered : goal.returns-clause-entered
returns-clause-entered c = given_after c.args.seat.now.me c.exchange.new.seat.me c.fetch_add.new.seat.me c.store.new.seat.me c.args.stage c.requires.out c.exchange.ensures.3 c.fetch_add.ensures.2 c.store.ensures.2 c.requires.event
