use Rattle.std.proofs.Common.{◌≡◌, sym, ◌∙◌}
use Rattle.play_types.specs.declared.transition.Kind.TheVariants.{Cut}
use Rattle.cmd_print.proofs.Spaced.{nothing_added}
use Rattle.cmd_print.proofs.take.add_transition.Goals as goal

pub returns-in-Cut : goal.returns-in-Cut
returns-in-Cut g c =
    let cut : c.args.trans.kind ≡ Cut = sym c.kind.ensures ∙ c.in-Cut.is in
    rw cut (nothing_added c.args.text.now (g.K.Sink.state c.args.to.now))
