use Rattle.std.proofs.Common.{◌≡◌, [], ◌∷◌, ◌++◌, sym, ap, ◌∙◌}
use Rattle.std.specs.Prelude.{None, slice_get, option_copied, codes, decimal}
use Rattle.std.proofs.lemmas.Str.{chars-nil}
use Rattle.history_model.specs.text.Commands.{capital_digits, place_text}
use Rattle.osc_status.specs.Texts.{without_zeros}
use Rattle.osc_status.proofs.StatusLines.{channel-route, colour-parts, place-route, worded}
use Rattle.osc_status.proofs.producer.add_producer.Goals as goal

pub returns-in-None : goal.returns-in-None
returns-in-None g c =
    let none : slice_get c.args.names.now c.in-Clip.id ≡ None = sym c.get.ensures ∙ ap option_copied c.in-None.is in
    rw (c.in-Clip.is, none) (rw chars-nil at c.add_name-in-None.ensures)

pub returns-in-Colour : goal.returns-in-Colour
returns-in-Colour g c =
    rw c.in-Colour.is
    (worded _ c.args.form c.args.pieces.now (35 ∷ (without_zeros (capital_digits 8 c.in-Colour.value) ++ [])) (without_zeros (35 ∷ capital_digits 8 c.in-Colour.value)) _ _ _
    (colour-parts c.in-Colour.value) (rw c.colour_digits.ensures at c.add_text.ensures))

pub returns-in-RouteChannel : goal.returns-in-RouteChannel
returns-in-RouteChannel g c =
    rw c.in-RouteChannel.is
    (worded _ c.args.form c.args.pieces.now (codes "route://" ++ (without_zeros (decimal c.in-RouteChannel.channel) ++ [])) (without_zeros (codes "route://" ++ decimal c.in-RouteChannel.channel)) _ _ _
    (channel-route c.in-RouteChannel.channel)
    (rw (c.as_bytes.ensures.value, c.format.ensures.text) at c.add_text-in-RouteChannel.ensures))

pub returns-in-RouteLayer : goal.returns-in-RouteLayer
returns-in-RouteLayer g c =
    rw c.in-RouteLayer.is
    (worded _ c.args.form c.args.pieces.now (codes "route://" ++ (without_zeros (decimal c.in-RouteLayer.place.channel) ++ (45 ∷ (without_zeros (decimal c.in-RouteLayer.place.layer) ++ []))))
    (without_zeros (codes "route://" ++ place_text c.in-RouteLayer.place)) _ _ _
    (place-route c.in-RouteLayer.place)
    (rw (c.as_bytes-in-RouteLayer.ensures.value, c.format-in-RouteLayer.ensures.text, c.channel.ensures.value, c.as_bytes-in-RouteLayer-2.ensures.value, c.format-in-RouteLayer-2.ensures.text, c.layer.ensures.value) at c.add_text-in-RouteLayer.ensures))
