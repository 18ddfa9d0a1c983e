use Rattle.std.proofs.Common.{ap, ◌∙◌, ◌++◌, ◌∷◌, [], arith}
use Rattle.std.proofs.lemmas.List.{take_all}
use Rattle.std.proofs.lemmas.Iterator.{YieldsList-from_slice}
use Rattle.std.proofs.lemmas.Iterator.Consumers.{YieldsList-turn, YieldsList-end}
use Rattle.play_types.specs.Config.{ChannelView}
use Rattle.play_server.proofs.CopyChannels.{copied-turn}
use Rattle.play_server.proofs.in_memory.copies.copy_channels.Goals as goal

pub loop-channel-preserved : goal.loop-channel-preserved
loop-channel-preserved c =
    let turn = YieldsList-turn (YieldsList-from_slice c.args.channels.now cc) c.loop-channel.yielded _ c.loop-channel.yielded_by _ _ c.in-Some.channel c.in-Some.is c.next.ensures.steps in
    copied-turn _ _ _ _ _ _ turn c.loop-channel.invariant
    (c.in_ok-push.ensures.ok ∙ ap (λ (channel : ChannelView). c.loop-channel.copies ++ channel ∷ []) c.in_ok-copy.ensures)

pub returns : goal.returns
returns c =
    let end = YieldsList-end (YieldsList-from_slice c.args.channels.now cc) c.loop-channel.yielded _ c.loop-channel.yielded_by _ _ c.in-None.is c.next.ensures.steps in
    c.loop-channel.invariant ∙ take_all _ c.args.channels.now (omega (arith, end.1))
