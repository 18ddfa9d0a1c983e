use Rattle.std.proofs.Common.{◌≡◌, sym, ◌∙◌}
use Rattle.play_types.specs.declared.setting.Prop.TheVariants.{Keyer}
use Rattle.cmd_print.proofs.Spaced.{nothing_added}
use Rattle.cmd_print.proofs.setting.add_timing.Goals as goal

pub returns-in-Keyer : goal.returns-in-Keyer
returns-in-Keyer g c =
    let keyer : c.args.setting.prop ≡ Keyer = sym c.prop.ensures ∙ c.in-Keyer.is in
    rw keyer (nothing_added c.args.text.now (g.K.Sink.state c.args.to.now))
