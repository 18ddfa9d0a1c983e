use Rattle.cmd_print.specs.inner.Bytes.{spaced}
use Rattle.cmd_print.proofs.take.add_timed.Goals as goal

pub returns : goal.returns
unfolding spaced
returns g c =
    rw (c.as_bytes.ensures.value, c.as_str.ensures.text, c.kind.ensures, c.as_bytes-2.ensures.value, c.format.ensures.text, c.duration.ensures.value, c.as_bytes-3.ensures.value, c.as_str-2.ensures.text, c.curve.ensures, c.as_bytes-4.ensures.value, c.direction_name.ensures, c.leftward.ensures) at c.add_parts.ensures
