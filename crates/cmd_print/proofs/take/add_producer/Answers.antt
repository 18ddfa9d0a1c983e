use Rattle.std.proofs.Common.{◌≡◌, sym, ap, ◌∙◌}
use Rattle.std.specs.Prelude.{None, slice_get, option_copied}
use Rattle.std.proofs.lemmas.Str.{chars-nil}
use Rattle.cmd_print.specs.inner.Bytes.{spaced}
use Rattle.cmd_print.proofs.Spaced.{channel-route, place-route}
use Rattle.cmd_print.proofs.take.add_producer.Goals as goal

pub returns-in-None : goal.returns-in-None
returns-in-None g c =
    let none : slice_get c.args.media.now c.in-Clip.id ≡ None = sym c.get.ensures ∙ ap option_copied c.in-None.is in
    rw (c.in-Clip.is, none) (rw chars-nil at c.add_name-in-None.ensures)

pub returns-in-Colour : goal.returns-in-Colour
unfolding spaced
returns-in-Colour g c = rw c.in-Colour.is (rw c.capital_digits.ensures at c.add_parts.ensures)

pub returns-in-RouteChannel : goal.returns-in-RouteChannel
returns-in-RouteChannel g c =
    rw c.in-RouteChannel.is
    (rw (c.as_bytes.ensures.value, c.format.ensures.text, channel-route c.in-RouteChannel.channel) at c.add_parts-in-RouteChannel.ensures)

pub returns-in-RouteLayer : goal.returns-in-RouteLayer
returns-in-RouteLayer g c =
    rw c.in-RouteLayer.is
    (rw (c.as_bytes-in-RouteLayer.ensures.value, c.format-in-RouteLayer.ensures.text, c.channel.ensures.value, c.as_bytes-in-RouteLayer-2.ensures.value, c.format-in-RouteLayer-2.ensures.text, c.layer.ensures.value, place-route c.in-RouteLayer.place) at c.add_parts-in-RouteLayer.ensures)
