use Rattle.std.proofs.Common.{◌++◌, ◌%◌}
use Rattle.std.specs.Prelude.{codes}
use Rattle.std.specs.Int.{w32, to_be_bytes}
use Rattle.play_outside.proofs.Following.{added-then, added-left}
use Rattle.osc_status.specs.declared.status_message.TheConstants.{TICKS_MODULUS}
use Rattle.osc_status.specs.Texts.{padded, text_bytes}
use Rattle.osc_status.specs.Status.{channel_address}
use Rattle.osc_status.specs.inner.Form.{formed}
use Rattle.osc_status.proofs.StatusLines.{ticks-parts}
use Rattle.osc_status.proofs.status_message.add_ticks.Goals as goal

pub returns-in_err-add_channel_address : goal.returns-in_err-add_channel_address
returns-in_err-add_channel_address g c =
    rw (ticks-parts c.args.form c.args.channel c.args.ticks)
    (added-left _ _ _ (formed c.args.form (text_bytes (channel_address c.args.channel ++ codes "/ticks"))) (formed c.args.form (padded (codes ",i")) ++ formed c.args.form (to_be_bytes w32 (c.args.ticks % TICKS_MODULUS))) _ _ _
    c.add_channel_address.ensures c.in_err-add_channel_address.ensures c.from_residual.ensures)

pub returns-in_err-add_letters : goal.returns-in_err-add_letters
returns-in_err-add_letters g c =
    rw (ticks-parts c.args.form c.args.channel c.args.ticks)
    (added-then _ _ (formed c.args.form (text_bytes (channel_address c.args.channel ++ codes "/ticks"))) (formed c.args.form (padded (codes ",i")) ++ formed c.args.form (to_be_bytes w32 (c.args.ticks % TICKS_MODULUS))) _ _ _ _ _
    (rw c.in_ok-add_channel_address.ensures at c.add_channel_address.ensures)
    (added-left _ _ _ (formed c.args.form (padded (codes ",i"))) (formed c.args.form (to_be_bytes w32 (c.args.ticks % TICKS_MODULUS))) _ _ _
    c.add_letters.ensures c.in_err-add_letters.ensures c.from_residual-in_err-add_letters.ensures))

pub returns : goal.returns
returns g c =
    rw (ticks-parts c.args.form c.args.channel c.args.ticks)
    (added-then _ _ (formed c.args.form (text_bytes (channel_address c.args.channel ++ codes "/ticks"))) (formed c.args.form (padded (codes ",i")) ++ formed c.args.form (to_be_bytes w32 (c.args.ticks % TICKS_MODULUS))) _ _ _ _ _
    (rw c.in_ok-add_channel_address.ensures at c.add_channel_address.ensures)
    (added-then _ _ (formed c.args.form (padded (codes ",i"))) (formed c.args.form (to_be_bytes w32 (c.args.ticks % TICKS_MODULUS))) _ _ _ _ _
    (rw c.in_ok-add_letters.ensures at c.add_letters.ensures) c.add_number.ensures))
