use Rattle.return_codes.proofs.Lines.{numbers_text-parts}
use Rattle.return_codes.proofs.media.add_numbers.Goals as goal

pub returns : goal.returns
returns g c =
    rw (
      c.as_bytes.ensures.value,
      c.format.ensures.text,
      c.width.ensures.value,
      c.as_bytes-2.ensures.value,
      c.format-2.ensures.text,
      c.height.ensures.value,
      c.as_bytes-3.ensures.value,
      c.format-3.ensures.text,
      c.frames.ensures.value,
      c.as_bytes-4.ensures.value,
      c.format-4.ensures.text,
      c.pairs.ensures.value,
      numbers_text-parts,
    ) at c.add_parts.ensures
