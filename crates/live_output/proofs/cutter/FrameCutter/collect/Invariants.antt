use Rattle.std.proofs.Common.{◌≡◌, ◌-◌}
use Rattle.std.specs.Vec.{vec_capacity, vec_len}
use Rattle.rtrb.specs.Ring.{SameConsumer}
use Rattle.live_output.proofs.cutter.FrameCutter.collect.Given as goal

-- only the empty buffers change
abbrev pub invariant-loop-self : goal.invariant-loop-self
invariant-loop-self l = record {
  rest : l.self ≡ record l.initial.self { free = l.self.free; back = l.self.back };
  ring : SameConsumer l.initial.self.back l.self.back;
}

abbrev pub decreases-loop-self : goal.decreases-loop-self
decreases-loop-self l = vec_capacity l.self.free - vec_len l.self.free
