use Rattle.std.proofs.Common.{sym, ◌∙◌, arith}
use Rattle.std.proofs.lemmas.Option.{slice_get_within}
use Rattle.stage_core.specs.Seen.{seen_layers}
use Rattle.status_display.proofs.PushedMessages.{layer_added, layers_added}
use Rattle.status_display.proofs.datagrams.push_layers.Goals as goal

pub layers-preserved : goal.layers-preserved
layers-preserved c =
    let there = sym c.seen_layer.ensures.value ∙ c.in-Some.is in
    layer_added c.args.names.now c.args.stage.now.journal.events c.args.channel c.layers.at _ _ c.layers.invariant c.in-Some.layer _ there
    (rw c.status_of.ensures at c.in_ok-push_layer.ensures)

pub layers-smaller : goal.layers-smaller
layers-smaller c =
    let there = sym c.seen_layer.ensures.value ∙ c.in-Some.is in
    let within = slice_get_within (seen_layers c.args.stage.now.journal.events c.args.channel) c.layers.at c.in-Some.layer there in
    omega (arith, within)

pub returns : goal.returns
returns c =
    layers_added c.args.names.now c.args.stage.now.journal.events c.args.channel c.layers.at _ _ c.layers.invariant
    (sym c.seen_layer.ensures.value ∙ c.in_default.is)
