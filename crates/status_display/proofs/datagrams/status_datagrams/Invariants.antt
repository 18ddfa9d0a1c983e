use Rattle.std.proofs.Common.{◌≡◌, ℕ, map}
use Rattle.std.specs.Global.{Global}
use Rattle.std.specs.declared.vec.Vec.{Vec}
use Rattle.osc_status.specs.Message.{message_bytes}
use Rattle.status_display.proofs.PushedMessages.{messages_to}
use Rattle.status_display.proofs.datagrams.status_datagrams.Given as goal

-- the messages of the channels before this one were added
abbrev pub invariant-loop-at : goal.invariant-loop-at
invariant-loop-at l =
    map (λ (message : Vec ℕ Global). message.items) l.list.items ≡ map message_bytes (messages_to l.fn.setup.names l.fn.stage.journal.events l.at)
