use Rattle.std.proofs.Common.{◌≡◌, ℕ, ◌+◌, List, subst, sym, arith}
use Rattle.play_schedule.specs.Order.{Entry}
use Rattle.play_schedule.proofs.Orders.{added_all, added_next, added_none, due_before_last, HasAdded}
use Rattle.play_schedule.proofs.order.add_each_copy.Goals as goal

pub loop-k-init : goal.loop-k-init
loop-k-init c = λ cues ticks found fits order. added_none cues ticks c.args.at c.args.cue.now _ order

pub loop-k-preserved : goal.loop-k-preserved
loop-k-preserved c = λ cues ticks found fits order.
    let cue = c.args.cue.now in
    let Added : List Entry → Type 0 = λ entries. HasAdded cues ticks c.args.at (c.loop-k.k + 1) cue c.args.order.now.entries entries in
    subst Added (sym c.in_ok-insert.ensures.entries)
    (added_next cues ticks c.args.at c.loop-k.k cue c.args.order.now.entries c.loop-k.order.entries found c.requires.late (due_before_last cue c.loop-k.k ticks c.loop-k-test.true fits)
    (c.loop-k.invariant cues ticks found fits order))

pub returns : goal.returns
returns c = λ cues ticks found fits order.
    let cue = c.args.cue.now in
    let all : c.loop-k.k ≡ cue.copies.count = omega arith in
    let Added : ℕ → Type 0 = λ copies. HasAdded cues ticks c.args.at copies cue c.args.order.now.entries c.loop-k.order.entries in
    added_all cues ticks c.args.at cue c.args.order.now.entries c.loop-k.order.entries found order (subst Added all (c.loop-k.invariant cues ticks found fits order))
