use Rattle.std.proofs.Common.{append-nil}
use Rattle.amcp_text.proofs.TextLaws.{bytes_of_chars}
use Rattle.return_codes.proofs.reply.add_reply.Goals as goal

pub returns-in-Done : goal.returns-in-Done
returns-in-Done g c = rw (c.in-Done.is, append-nil) c.add_code.ensures

pub returns-in-Version : goal.returns-in-Version
returns-in-Version g c = rw c.in-Version.is c.add_two_lines.ensures

pub returns-in-Unknown : goal.returns-in-Unknown
returns-in-Unknown g c =
    rw (c.in-Unknown.is, ← bytes_of_chars c.as_str.result.now c.in-Unknown.line c.as_str.utf8 c.as_str.ensures)
    (rw (c.as_bytes.ensures.value, append-nil c.as_str.result.now) at c.add_two_lines-in-Unknown.ensures)

pub returns-in-Refused : goal.returns-in-Refused
returns-in-Refused g c = rw (c.in-Refused.is, append-nil, ← c.refusal.ensures) c.add_code-in-Refused.ensures

pub returns-in-NoMemory : goal.returns-in-NoMemory
returns-in-NoMemory g c = rw (c.in-NoMemory.is, append-nil) c.add_line.ensures
