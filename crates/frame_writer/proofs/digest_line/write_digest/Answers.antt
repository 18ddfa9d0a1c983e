use Rattle.std.proofs.Common.{append_assoc}
use Rattle.history_model.specs.text.Frames.{digest_line}
use Rattle.frame_writer.proofs.digest_line.write_digest.Goals as goal

pub returns : goal.returns
unfolding digest_line
returns g c =
    simp append_assoc
    (rw (c.as_bytes.ensures.value, c.format.ensures.text, c.as_bytes-2.ensures.value, c.format-2.ensures.text, c.digest_of.ensures) at c.send_parts.ensures)
