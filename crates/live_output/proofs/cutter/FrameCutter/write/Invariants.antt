use Rattle.std.proofs.Common.{◌≡◌, ◌≤◌, ◌-◌, ◌++◌, ℕ, List, length, take}
use Rattle.rtrb.specs.Ring.{SameConsumer, SameProducer}
use Rattle.live_output.specs.Cut.{IsCut}
use Rattle.live_output.proofs.cutter.FrameCutter.write.Given as goal

-- the bytes so far were cut
abbrev pub invariant-loop-from : goal.invariant-loop-from
invariant-loop-from l = record {
  fits : l.from ≤ length l.piece;
  size : l.self.size ≡ l.initial.self.size;
  cut : (written : List ℕ) → IsCut written l.initial.self → IsCut (written ++ take l.from l.piece) l.self;
  rings : SameProducer l.initial.self.out l.self.out × SameConsumer l.initial.self.back l.self.back;
}

abbrev pub decreases-loop-from : goal.decreases-loop-from
decreases-loop-from l = length l.piece - l.from
