use Rattle.std.proofs.Common.{[], ◌++◌}
use Rattle.std.specs.Prelude.{codes, decimal}
use Rattle.osc_status.specs.Texts.{without_zeros}
use Rattle.osc_status.specs.Status.{layer_address}
use Rattle.osc_status.proofs.StatusLines.{layer-parts, worded}
use Rattle.osc_status.proofs.address.add_layer_address.Goals as goal

pub returns : goal.returns
returns g c =
    worded _ c.args.form c.args.pieces.now
    (codes "/channel/" ++ (without_zeros (decimal c.args.layer.now.channel) ++ (codes "/layer/" ++ (without_zeros (decimal c.args.layer.now.layer) ++ (without_zeros c.args.topic.now ++ [])))))
    (layer_address c.args.layer.now.channel c.args.layer.now.layer ++ c.args.topic.now) _ _ _
    (layer-parts c.args.layer.now.channel c.args.layer.now.layer c.args.topic.now c.requires)
    (rw (c.as_bytes.ensures.value, c.format.ensures.text, c.as_bytes-2.ensures.value, c.format-2.ensures.text) at c.add_text.ensures)
