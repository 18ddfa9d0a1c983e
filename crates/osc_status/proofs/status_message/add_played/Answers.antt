use Rattle.std.proofs.Common.{◌++◌}
use Rattle.std.specs.Prelude.{codes}
use Rattle.play_outside.proofs.Following.{added-then, added-left}
use Rattle.osc_status.specs.Texts.{padded, text_bytes, without_zeros}
use Rattle.osc_status.specs.Status.{layer_address, producer_text}
use Rattle.osc_status.specs.inner.Form.{formed}
use Rattle.osc_status.proofs.StatusLines.{producer-parts}
use Rattle.osc_status.proofs.status_message.add_played.Goals as goal

pub returns-in_err-add_layer_address : goal.returns-in_err-add_layer_address
returns-in_err-add_layer_address g c =
    rw (producer-parts c.args.form c.args.names.now c.args.layer.now)
    (added-left _ _ _ (formed c.args.form (text_bytes (layer_address c.args.layer.now.channel c.args.layer.now.layer ++ codes "/producer"))) (formed c.args.form (padded (codes ",s")) ++ formed c.args.form (text_bytes (without_zeros (producer_text c.args.names.now c.args.layer.now.spec)))) _ _ _
    c.add_layer_address.ensures c.in_err-add_layer_address.ensures c.from_residual.ensures)

pub returns-in_err-add_letters : goal.returns-in_err-add_letters
returns-in_err-add_letters g c =
    rw (producer-parts c.args.form c.args.names.now c.args.layer.now)
    (added-then _ _ (formed c.args.form (text_bytes (layer_address c.args.layer.now.channel c.args.layer.now.layer ++ codes "/producer"))) (formed c.args.form (padded (codes ",s")) ++ formed c.args.form (text_bytes (without_zeros (producer_text c.args.names.now c.args.layer.now.spec)))) _ _ _ _ _
    (rw c.in_ok-add_layer_address.ensures at c.add_layer_address.ensures)
    (added-left _ _ _ (formed c.args.form (padded (codes ",s"))) (formed c.args.form (text_bytes (without_zeros (producer_text c.args.names.now c.args.layer.now.spec)))) _ _ _
    c.add_letters.ensures c.in_err-add_letters.ensures c.from_residual-in_err-add_letters.ensures))

pub returns : goal.returns
returns g c =
    rw (producer-parts c.args.form c.args.names.now c.args.layer.now)
    (added-then _ _ (formed c.args.form (text_bytes (layer_address c.args.layer.now.channel c.args.layer.now.layer ++ codes "/producer"))) (formed c.args.form (padded (codes ",s")) ++ formed c.args.form (text_bytes (without_zeros (producer_text c.args.names.now c.args.layer.now.spec)))) _ _ _ _ _
    (rw c.in_ok-add_layer_address.ensures at c.add_layer_address.ensures)
    (added-then _ _ (formed c.args.form (padded (codes ",s"))) (formed c.args.form (text_bytes (without_zeros (producer_text c.args.names.now c.args.layer.now.spec)))) _ _ _ _ _
    (rw c.in_ok-add_letters.ensures at c.add_letters.ensures) c.add_producer.ensures))
