use Rattle.std.proofs.Common.{rules, arith}
use Rattle.stage_lock.proofs.Steps.{given, gives_as}
use Rattle.stage_lock.proofs.slot.give_back.Goals as goal

pub store-requires : goal.store-requires
store-requires c = (search rules, search rules, gives_as _ _ _ _ _ c.args.stage (omega (arith, c.requires.board.slots)) c.requires.out c.exchange.ensures.3 c.requires.stage)

pub returns-clause-me : goal.returns-clause-me
returns-clause-me c = given c.args.seat.now.me c.exchange.new.seat.me c.store.new.seat.me c.args.stage c.requires.out c.exchange.ensures.3 c.store.ensures.2
