use Rattle.std.proofs.Common.{sym, ◌∙◌, arith}
use Rattle.std.proofs.lemmas.Option.{slice_get_within}
use Rattle.play_outside.proofs.Taking.{after_taking-nil}
use Rattle.stage_core.specs.Seen.{seen_layers}
use Rattle.status_display.specs.Status.{events_of_tick}
use Rattle.status_display.proofs.ToldStatus.{layer_fails, layer_told, layers_told}
use Rattle.status_display.proofs.status_display.send_layers.Goals as goal

pub layers-init : goal.layers-init
layers-init g c = sym (after_taking-nil (g.K.Sink.state c.args.out.now))

pub layers-preserved : goal.layers-preserved
layers-preserved g c =
    let tick = c.args.tick in
    let there = sym c.seen_layer.ensures.value ∙ c.in-Some.is in
    layer_told tick.setup.now.names tick.number (events_of_tick tick) c.args.channel c.layers.at _ _ c.layers.invariant c.in-Some.layer _ there
    (rw (c.in_ok-write_layer_status.ensures, c.status_of.ensures) at c.write_layer_status.ensures)

pub layers-smaller : goal.layers-smaller
layers-smaller g c =
    let tick = c.args.tick in
    let there = sym c.seen_layer.ensures.value ∙ c.in-Some.is in
    let within = slice_get_within (seen_layers (events_of_tick tick) c.args.channel) c.layers.at c.in-Some.layer there in
    omega (arith, within)

pub returns-in_err-write_layer_status : goal.returns-in_err-write_layer_status
returns-in_err-write_layer_status g c =
    let tick = c.args.tick in
    let there = sym c.seen_layer.ensures.value ∙ c.in-Some.is in
    rw c.from_residual.ensures
    (layer_fails tick.setup.now.names tick.number (events_of_tick tick) c.args.channel c.layers.at _ _ c.layers.invariant c.in-Some.layer _ there
    (rw (c.in_err-write_layer_status.ensures, c.status_of.ensures) at c.write_layer_status.ensures))

pub returns : goal.returns
returns g c =
    let tick = c.args.tick in
    layers_told tick.setup.now.names tick.number (events_of_tick tick) c.args.channel c.layers.at _ _ c.layers.invariant
    (sym c.seen_layer.ensures.value ∙ c.in_default.is)
