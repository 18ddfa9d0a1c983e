use Rattle.std.proofs.Common.{◌≡◌, ◌∙◌, ap, arith, subst}
use Rattle.play_journal.specs.Journal.{IsJournal, JournalView}
use Rattle.play_journal.proofs.Few.{few_events}
use Rattle.stage_lock.proofs.slot.has_few_events.Goals as goal

pub returns : goal.returns
returns c =
    let within : IsJournal c.args.stage.now.journal = subst IsJournal c.journal-2.ensures c.held-held.ensures.range in
    let limit : c.limit-most.result ≡ c.args.stage.now.journal.limit = c.limit-most.ensures ∙ ap (λ (j : JournalView). j.limit) c.journal.ensures in
    omega (arith, few_events c.args.stage.now.journal.events within.history, within.commands, within.ticks, limit, c.limit-most.type_inv)
