use Rattle.std.proofs.Common.{append_assoc}
use Rattle.history_model.specs.text.Frames.{head_line}
use Rattle.frame_writer.proofs.hex_lines.add_head.Goals as goal

pub returns : goal.returns
unfolding head_line
returns g c =
    simp append_assoc
    (rw (c.as_bytes.ensures.value, c.format.ensures.text, c.as_bytes-2.ensures.value, c.format-2.ensures.text) at c.add_parts.ensures)
