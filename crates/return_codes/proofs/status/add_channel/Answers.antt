use Rattle.return_codes.proofs.Lines.{channel_line-parts}
use Rattle.return_codes.proofs.status.add_channel.Goals as goal

pub returns : goal.returns
returns g c =
    rw (
      c.as_bytes.ensures.value,
      c.format.ensures.text,
      c.as_bytes-2.ensures.value,
      c.format-2.ensures.text,
      c.width.ensures.value,
      c.as_bytes-3.ensures.value,
      c.format-3.ensures.text,
      c.height.ensures.value,
      c.as_bytes-4.ensures.value,
      c.as_str.ensures,
      channel_line-parts,
    ) at c.add_line.ensures
