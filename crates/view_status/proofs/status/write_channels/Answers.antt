use Rattle.std.proofs.Common.{◌≡◌, ℕ, ◌+◌, ◌++◌, ◌∙◌, List, length, sym, ap, arith}
use Rattle.std.specs.Prelude.{Some, slice_get, option_copied}
use Rattle.std.specs.List.{enumerate_from}
use Rattle.std.proofs.lemmas.List.FromFn.{length-enumerate_from}
use Rattle.play_types.specs.Config.{ChannelView}
use Rattle.view_status.specs.Status.{channel_tokens, numbered_tokens, source_of}
use Rattle.view_status.proofs.Written.{all_written, numbered, one_written}
use Rattle.view_status.proofs.status.write_channels.Goals as goal

pub loop-at-preserved : goal.loop-at-preserved
loop-at-preserved c =
    let source = c.args.source in
    let channels = source.config.now.channels in
    let there : slice_get channels c.loop-at.at ≡ Some c.unwrap-size.result.now =
    ap (λ (list : List ChannelView). slice_get list c.loop-at.at) (sym c.channels-channels.ensures.value)
    ∙ sym c.get.ensures ∙ ap option_copied c.unwrap-size.ensures in
    let few = c.channels-channels.ensures.range.parts.few_channels in
    let same = ap length c.channels-channels.ensures.value in
    one_written (numbered_tokens (source_of source)) (enumerate_from 1 channels) c.loop-at.at _ _ c.loop-at.invariant
    (1 + c.loop-at.at, c.unwrap-size.result.now) _ (numbered channels 1 c.loop-at.at c.unwrap-size.result.now there)
    (c.in_ok-write_channel.ensures
    ∙ ap (λ (n : ℕ). c.loop-at.document ++ channel_tokens (source_of source) n c.unwrap-size.result.now)
    (omega (arith, few, same, c.loop-at-test.true, c.len-at-end.ensures.value)))

pub returns : goal.returns
returns c =
    let source = c.args.source in
    let channels = source.config.now.channels in
    all_written (numbered_tokens (source_of source)) (enumerate_from 1 channels) c.loop-at.at _ _ c.loop-at.invariant
    (omega (arith, length-enumerate_from 1 channels, c.loop-at-test.false, c.len-at-end.ensures.value, ap length c.channels-channels.ensures.value))
