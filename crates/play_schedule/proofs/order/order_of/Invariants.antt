use Rattle.play_schedule.specs.Order.{IsOrderOf}
use Rattle.play_schedule.proofs.order.order_of.Given as goal

abbrev pub invariant-loop-at : goal.invariant-loop-at
invariant-loop-at l = IsOrderOf l.cues l.ticks l.at l.order.entries
