use Rattle.std.proofs.Common.{◌≡◌, ℕ, ◌≤◌, List}
use Rattle.std.specs.Prelude.{Some, slice_get}
use Rattle.play_schedule.specs.declared.cue.Cue.{Cue}
use Rattle.play_schedule.specs.Due.{last_moment}
use Rattle.play_schedule.specs.Order.{IsOrderOf}
use Rattle.play_schedule.proofs.Orders.{HasAdded}
use Rattle.play_schedule.proofs.order.add_each_copy.Given as goal

abbrev pub invariant-loop-k : goal.invariant-loop-k
invariant-loop-k l = (cues : List Cue) (ticks : ℕ) → slice_get cues l.at ≡ Some l.cue → last_moment l.cue ≤ ticks
    → IsOrderOf cues ticks l.at l.initial.order.entries → HasAdded cues ticks l.at l.k l.cue l.initial.order.entries l.order.entries
