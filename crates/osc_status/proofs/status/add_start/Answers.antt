use Rattle.osc_status.proofs.status.add_start.Goals as goal

pub returns : goal.returns
returns g c = rw (c.as_bytes.ensures.value, c.format.ensures.text) at c.add_parts.ensures
