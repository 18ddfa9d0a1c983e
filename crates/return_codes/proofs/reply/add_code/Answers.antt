use Rattle.return_codes.proofs.Lines.{code_line-parts}
use Rattle.return_codes.proofs.reply.add_code.Goals as goal

pub returns : goal.returns
returns g c =
    rw (c.as_bytes.ensures.value, c.format.ensures.text, c.as_bytes-2.ensures.value, c.as_str.ensures.text, c.as_bytes-3.ensures.value, code_line-parts) at c.add_line.ensures
