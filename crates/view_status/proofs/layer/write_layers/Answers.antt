use Rattle.std.proofs.Common.{◌∙◌, sym, arith, append-nil}
use Rattle.std.proofs.lemmas.Option.{slice_get_within}
use Rattle.stage_core.specs.Seen.{seen_layers}
use Rattle.view_status.specs.Status.{layer_tokens, source_of}
use Rattle.view_status.proofs.Written.{all_written, none_further, one_written}
use Rattle.view_status.proofs.layer.write_layers.Goals as goal

pub layers-init : goal.layers-init
layers-init c = sym (append-nil _)

pub layers-preserved : goal.layers-preserved
layers-preserved c =
    let source = c.args.source in
    let there = sym c.seen_layer.ensures.value ∙ c.in-Some.is in
    one_written (layer_tokens (source_of source) c.args.channel) (seen_layers source.stage.now.journal.events c.args.channel)
    c.layers.at _ _ c.layers.invariant c.in-Some.layer _ there c.in_ok-write_layer.ensures

pub layers-smaller : goal.layers-smaller
layers-smaller c =
    let source = c.args.source in
    let there = sym c.seen_layer.ensures.value ∙ c.in-Some.is in
    let within = slice_get_within (seen_layers source.stage.now.journal.events c.args.channel) c.layers.at c.in-Some.layer there in
    omega (arith, within)

pub returns : goal.returns
returns c =
    let source = c.args.source in
    let layers = seen_layers source.stage.now.journal.events c.args.channel in
    all_written (layer_tokens (source_of source) c.args.channel) layers c.layers.at _ _ c.layers.invariant
    (none_further layers c.layers.at (sym c.seen_layer.ensures.value ∙ c.in_default.is))
