use Rattle.std.proofs.Common.{append-nil}
use Rattle.osc_status.proofs.Characters.{name_bytes}
use Rattle.osc_status.proofs.producer.add_name.Goals as goal

pub returns : goal.returns
returns g c = rw (name_bytes c.args.name.now c.utf8.name) (rw (c.as_bytes.ensures.value, append-nil) at c.add_text.ensures)
