use Rattle.std.proofs.Common.{◌++◌}
use Rattle.std.specs.Prelude.{codes}
use Rattle.std.specs.Int.{w32, from_bool, to_be_bytes}
use Rattle.play_outside.proofs.Following.{added-then, added-left}
use Rattle.osc_status.specs.Texts.{padded, text_bytes}
use Rattle.osc_status.specs.Status.{layer_address}
use Rattle.osc_status.specs.inner.Form.{formed}
use Rattle.osc_status.proofs.StatusLines.{paused-parts}
use Rattle.osc_status.proofs.status_message.add_paused.Goals as goal

pub returns-in_err-add_layer_address : goal.returns-in_err-add_layer_address
returns-in_err-add_layer_address g c =
    rw (paused-parts c.args.form c.args.layer.now)
    (added-left _ _ _ (formed c.args.form (text_bytes (layer_address c.args.layer.now.channel c.args.layer.now.layer ++ codes "/paused"))) (formed c.args.form (padded (codes ",i")) ++ formed c.args.form (to_be_bytes w32 (from_bool c.args.layer.now.paused))) _ _ _
    c.add_layer_address.ensures c.in_err-add_layer_address.ensures c.from_residual.ensures)

pub returns-in_err-add_letters : goal.returns-in_err-add_letters
returns-in_err-add_letters g c =
    rw (paused-parts c.args.form c.args.layer.now)
    (added-then _ _ (formed c.args.form (text_bytes (layer_address c.args.layer.now.channel c.args.layer.now.layer ++ codes "/paused"))) (formed c.args.form (padded (codes ",i")) ++ formed c.args.form (to_be_bytes w32 (from_bool c.args.layer.now.paused))) _ _ _ _ _
    (rw c.in_ok-add_layer_address.ensures at c.add_layer_address.ensures)
    (added-left _ _ _ (formed c.args.form (padded (codes ",i"))) (formed c.args.form (to_be_bytes w32 (from_bool c.args.layer.now.paused))) _ _ _
    c.add_letters.ensures c.in_err-add_letters.ensures c.from_residual-in_err-add_letters.ensures))

pub returns : goal.returns
returns g c =
    rw (paused-parts c.args.form c.args.layer.now)
    (added-then _ _ (formed c.args.form (text_bytes (layer_address c.args.layer.now.channel c.args.layer.now.layer ++ codes "/paused"))) (formed c.args.form (padded (codes ",i")) ++ formed c.args.form (to_be_bytes w32 (from_bool c.args.layer.now.paused))) _ _ _ _ _
    (rw c.in_ok-add_layer_address.ensures at c.add_layer_address.ensures)
    (added-then _ _ (formed c.args.form (padded (codes ",i"))) (formed c.args.form (to_be_bytes w32 (from_bool c.args.layer.now.paused))) _ _ _ _ _
    (rw c.in_ok-add_letters.ensures at c.add_letters.ensures) (rw c.from.ensures at c.add_number.ensures)))
