use Rattle.std.proofs.Common.{◌≡◌, ◌≤◌, ◌<◌, ◌+◌, List, subst, sym, arith}
use Rattle.play_schedule.specs.Order.{Entry, IsOrderOf}
use Rattle.play_schedule.proofs.Orders.{added_no_copy, added_together}
use Rattle.play_schedule.proofs.order.add_cue.Goals as goal

pub returns-in_ok-insert : goal.returns-in_ok-insert
returns-in_ok-insert c = λ cues ticks found fits order.
    let cue = c.args.cue.now in
    let none : cue.copies.interval ≡ 0 = omega arith in
    let some : 0 < cue.copies.count = omega arith in
    let early : cue.moment ≤ ticks = omega arith in
    let Ordered : List Entry → Type 0 = λ entries. IsOrderOf cues ticks (c.args.at + 1) entries in
    subst Ordered (sym c.in_ok-insert.ensures.entries) (added_together cues ticks c.args.at cue c.args.order.now.entries found none some early order)

pub returns-else-copies-gt0-2 : goal.returns-else-copies-gt0-2
returns-else-copies-gt0-2 c = λ cues ticks found fits order.
    let none : c.args.cue.now.copies.count ≡ 0 = omega arith in
    added_no_copy cues ticks c.args.at c.args.cue.now c.args.order.now.entries found none order
