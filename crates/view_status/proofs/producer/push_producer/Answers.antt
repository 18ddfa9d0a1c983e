use Rattle.std.proofs.Common.{◌≡◌, sym, ap, ◌∙◌, arith}
use Rattle.std.specs.Prelude.{None, Some, slice_get, option_copied}
use Rattle.view_status.proofs.Words.{channel_encoded, colour_encoded, name_encoded, no_name, place_encoded, pushed}
use Rattle.view_status.proofs.producer.push_producer.Goals as goal

pub returns-in-Some : goal.returns-in-Some
returns-in-Some c =
    let there : slice_get c.args.names.now c.in-Clip.id ≡ Some c.in-Some.clip.now = sym c.get.ensures ∙ ap option_copied c.in-Some.is in
    rw c.in-Clip.is
    (pushed c.push_str.result _ _ c.as_str.result.now _ c.push_str.ensures.bytes
    (name_encoded c.args.names.now c.in-Clip.id c.in-Some.clip.now c.as_str.result.now c.as_str.utf8 (c.as_str.ensures ∙ c.name.ensures) there))

pub returns-in-None : goal.returns-in-None
returns-in-None c =
    let none : slice_get c.args.names.now c.in-Clip.id ≡ None = sym c.get.ensures ∙ ap option_copied c.in-None.is in
    rw c.in-Clip.is (no_name c.args.names.now c.in-Clip.id _ none)

pub returns-in-Colour : goal.returns-in-Colour
returns-in-Colour c = rw (c.in-Colour.is, colour_encoded c.in-Colour.value) c.push_colour.ensures

pub returns-in-RouteChannel : goal.returns-in-RouteChannel
returns-in-RouteChannel c =
    rw (c.in-RouteChannel.is, channel_encoded c.in-RouteChannel.channel (omega (arith, c.from.ensures)))
    (rw c.from.ensures at c.push_channel.ensures)

pub returns-in-RouteLayer : goal.returns-in-RouteLayer
returns-in-RouteLayer c =
    let channel = c.channel.ensures.range.channels in
    let layer = c.channel.ensures.range.layers in
    rw (c.in-RouteLayer.is, place_encoded c.in-RouteLayer.place (omega (arith, channel)) (omega (arith, layer)))
    (rw (c.channel.ensures.value, c.layer.ensures.value) at c.push_layer.ensures)
