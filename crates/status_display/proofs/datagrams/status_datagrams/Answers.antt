use Rattle.std.proofs.Common.{◌≡◌, length, map, ap, ◌∙◌, arith}
use Rattle.osc_status.specs.Message.{message_bytes}
use Rattle.status_display.proofs.PushedMessages.{all_messages, channel_added, messages_to}
use Rattle.status_display.proofs.datagrams.status_datagrams.Goals as goal

pub loop-at-preserved : goal.loop-at-preserved
loop-at-preserved c =
    channel_added c.args.setup.now.names c.args.stage.now.journal.events c.loop-at.at _ _ c.loop-at.invariant c.in_ok-push_channel.ensures

pub returns : goal.returns
returns c =
    let setup = c.args.setup.now in
    let history = c.args.stage.now.journal.events in
    let few = c.channels.ensures.range.parts.few_channels in
    let all : c.loop-at.at ≡ length setup.config.channels = omega (arith, c.len-count.ensures.value, ap length c.channels.ensures.value, few, c.loop-at-test.false) in
    c.loop-at.invariant ∙ ap (λ at. map message_bytes (messages_to setup.names history at)) all ∙ ap (map message_bytes) (all_messages setup history)
