use Rattle.std.proofs.Common.{◌≡◌, ◌-◌, ◌++◌, ℕ, length, map}
use Rattle.std.specs.Global.{Global}
use Rattle.std.specs.declared.vec.Vec.{Vec}
use Rattle.stage_core.specs.Seen.{seen_layers}
use Rattle.osc_status.specs.Message.{message_bytes}
use Rattle.status_display.proofs.PushedMessages.{first_messages}
use Rattle.status_display.proofs.datagrams.push_layers.Given as goal

-- the messages of the layers before this one were added
abbrev pub invariant-layers : goal.invariant-layers
invariant-layers l =
    map (λ (message : Vec ℕ Global). message.items) l.list.items
    ≡ map (λ (message : Vec ℕ Global). message.items) l.initial.list.items ++ map message_bytes (first_messages l.names l.stage.journal.events l.channel l.at)

-- each turn adds the messages of one layer
abbrev pub decreases-layers : goal.decreases-layers
decreases-layers l = length (seen_layers l.stage.journal.events l.channel) - l.at
