use Rattle.std.proofs.Common.{◌≡◌, ◌≤◌, ◌-◌, ◌⊎◌}
use Rattle.rtrb.specs.Ring.{SameConsumer, SameProducer, received}
use Rattle.live_output.proofs.window.FrameWindow.let_go_before.Given as goal

-- only frames before the number were released, and nothing else changed
abbrev pub invariant-loop-self : goal.invariant-loop-self
invariant-loop-self l = record {
  only : (l.self.gone ≡ l.initial.self.gone) ⊎ (l.self.gone ≤ l.number);
  same : (received l.self.inbox ≡ received l.initial.self.inbox) × (l.self.waiting ≡ l.initial.self.waiting);
  rings : SameConsumer l.initial.self.inbox l.self.inbox × SameProducer l.initial.self.back l.self.back;
}

abbrev pub decreases-loop-self : goal.decreases-loop-self
decreases-loop-self l = l.number - l.self.gone
