use Rattle.std.proofs.Common.{arith, drop}
use Rattle.play_outside.proofs.Giving.{drop-piece, take-piece}
use Rattle.play_outside.proofs.memory.unread.Unread.give.Goals as goal

pub returns-clause-left : goal.returns-clause-left
returns-clause-left c =
    let count = c.min-count.result in
    let others = drop count c.args.buf.now in
    rw (← c.self.view_is, ← c.deref.ensures.value)
    (drop-piece c.deref.result.now c.copy_from_slice.new.self others c.self.inside.given count c.copy_from_slice.ensures.after
    (omega (arith, c.min.ensures, c.min-count.ensures)))

pub returns-clause-given : goal.returns-clause-given
returns-clause-given c =
    let count = c.min-count.result in
    let others = drop count c.args.buf.now in
    rw (← c.self.view_is, ← c.deref.ensures.value)
    (take-piece c.deref.result.now c.copy_from_slice.new.self others c.self.inside.given count c.copy_from_slice.ensures.after
    (omega (arith, c.min.ensures, c.min-count.ensures)))
