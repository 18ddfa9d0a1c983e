use Rattle.cmd_print.specs.inner.Bytes.{spaced}
use Rattle.cmd_print.proofs.word.add_word.Goals as goal

pub returns : goal.returns
unfolding spaced
returns g c = rw c.as_bytes.ensures.value at c.add_parts.ensures
