use Rattle.std.proofs.Common.{[], ◌∷◌}
use Rattle.std.specs.Prelude.{flat_map}
use Rattle.std.proofs.lemmas.Result.{on_ok_weaker}
use Rattle.play_types.specs.History.{ticks}
use Rattle.osc_status.specs.Status.{layer_messages, layer_statuses, ticks_message}
use Rattle.status_display.proofs.PushedMessages.{further}
use Rattle.status_display.proofs.datagrams.push_channel.Goals as goal

pub returns : goal.returns
returns c =
    let history = c.args.stage.now.journal.events in
    on_ok_weaker c.push_layers.result
    (further _ _ _ (ticks_message c.args.channel (ticks history) ∷ []) (flat_map (layer_messages c.args.setup.now.names) (layer_statuses history c.args.channel))
    (rw (c.ticks-ticks.ensures.value, c.journal.ensures) at c.in_ok-push_message.ensures))
    c.push_layers.ensures
