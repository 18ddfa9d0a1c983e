use Rattle.amcp_text.proofs.Escapes.{escaped_text-bytes, quoted-bytes}
use Rattle.amcp_text.proofs.laws.escapes_of_bytes.Goals as goal

pub returns-clause-text : goal.returns-clause-text
returns-clause-text c = escaped_text-bytes

pub returns-clause-in_marks : goal.returns-clause-in_marks
returns-clause-in_marks c = quoted-bytes
