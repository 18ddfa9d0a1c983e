use Rattle.std.proofs.Common.{[], ◌++◌}
use Rattle.std.specs.Prelude.{codes, decimal}
use Rattle.osc_status.specs.Texts.{without_zeros}
use Rattle.osc_status.specs.Status.{channel_address}
use Rattle.osc_status.proofs.StatusLines.{channel-parts, worded}
use Rattle.osc_status.proofs.address.add_channel_address.Goals as goal

pub returns : goal.returns
returns g c =
    worded _ c.args.form c.args.pieces.now (codes "/channel/" ++ (without_zeros (decimal c.args.channel) ++ (without_zeros c.args.topic.now ++ []))) (channel_address c.args.channel ++ c.args.topic.now) _ _ _
    (channel-parts c.args.channel c.args.topic.now c.requires) (rw (c.as_bytes.ensures.value, c.format.ensures.text) at c.add_text.ensures)
