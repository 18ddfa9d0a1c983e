use Rattle.cmd_print.proofs.Spaced.{place-parts}
use Rattle.cmd_print.proofs.word.add_place.Goals as goal

pub returns : goal.returns
returns g c =
    rw (c.as_bytes.ensures.value, c.format.ensures.text, c.channel.ensures.value, c.as_bytes-2.ensures.value, c.format-2.ensures.text, c.layer.ensures.value, place-parts c.args.place) at c.add_parts.ensures
