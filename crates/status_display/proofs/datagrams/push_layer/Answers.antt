use Rattle.std.proofs.Common.{[], ◌∷◌}
use Rattle.std.proofs.lemmas.Result.{on_ok_weaker}
use Rattle.osc_status.specs.Status.{frame_message, paused_message, producer_message}
use Rattle.status_display.proofs.PushedMessages.{further}
use Rattle.status_display.proofs.datagrams.push_layer.Goals as goal

pub returns : goal.returns
returns c =
    let produced = producer_message c.args.names.now c.args.layer.now in
    let framed = frame_message c.args.layer.now in
    on_ok_weaker c.push_message-3.result
    (further _ _ _ (produced ∷ framed ∷ []) (paused_message c.args.layer.now ∷ [])
    (further _ _ _ (produced ∷ []) (framed ∷ []) c.in_ok-push_message.ensures c.in_ok-push_message-2.ensures))
    c.push_message-3.ensures
