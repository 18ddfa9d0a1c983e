use Rattle.std.proofs.Common.{append_assoc}
use Rattle.history_model.specs.scripts.Output.{tag_text}
use Rattle.cmd_print.proofs.event.add_tag.Goals as goal

pub returns : goal.returns
unfolding tag_text
returns g c =
    simp append_assoc
    (rw (c.as_bytes.ensures.value, c.format.ensures.text, c.as_bytes-2.ensures.value, c.format-2.ensures.text) at c.add_parts.ensures)
