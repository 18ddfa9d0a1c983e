use Rattle.cmd_print.specs.inner.Bytes.{spaced}
use Rattle.cmd_print.proofs.word.add_number.Goals as goal

pub returns : goal.returns
unfolding spaced
returns g c = rw (c.as_bytes.ensures.value, c.format.ensures.text) at c.add_parts.ensures
