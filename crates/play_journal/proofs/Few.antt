-- A journal has no more events than can be counted in 64 bits.
use Rattle.std.proofs.Common.{◌+◌, ◌≤◌, List, [], ◌∷◌, length, ap, arith}
use Rattle.play_types.specs.History.{IsHistory, held, ticks}
use Rattle.play_types.specs.declared.event.Event.{Event}
use Rattle.play_types.specs.declared.event.Event.TheVariants.{Do, Batch, Tick, Stop}

-- the events of a history are no more than its commands, its ticks and one stop
pub few_events : (events : List Event) → IsHistory events → length events ≤ held events + ticks events + 1
few_events [] h = omega arith
few_events (Do tag cmd ∷ events) h = omega (arith, few_events events h)
few_events (Batch tag cmds ∷ events) h = let some_commands = h.0 in omega (arith, few_events events h.1)
few_events (Tick ∷ events) h = omega (arith, few_events events h)
few_events (Stop tag ∷ events) h = omega (arith, ap length h)
