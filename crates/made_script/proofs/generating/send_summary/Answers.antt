use Rattle.made_script.proofs.SummaryTexts.{summary_sent}
use Rattle.made_script.proofs.generating.send_summary.Goals as goal

pub returns : goal.returns
returns g c = λ lines has.
    summary_sent lines c.args.run c.send_parts.result c.commands_in-commands.result c.ticks-ticks.result c.digits_of.result _ _ has
    (rw c.journal-journal.ensures at c.commands_in-commands.ensures) (rw c.journal-journal.ensures at c.ticks-ticks.ensures.value) c.digits_of.ensures
    (rw (
      c.as_bytes.ensures.value,
      c.format.ensures.text,
      c.as_bytes-2.ensures.value,
      c.format-2.ensures.text,
      c.as_bytes-3.ensures.value,
      c.format-3.ensures.text,
    ) at c.send_parts.ensures)
