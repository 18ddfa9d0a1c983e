use Rattle.std.proofs.Common.{sym, ap, ◌∙◌}
use Rattle.play_journal.specs.Journal.{JournalView, ends_in_tick}
use Rattle.play_journal.proofs.Ends.{ends-running, ends-stopped}
use Rattle.play_journal.proofs.journal.Journal.ends_in_tick.Goals as goal

pub returns-in-Some : goal.returns-in-Some
returns-in-Some c =
    let i = c.self.inside in
    sym (ends-stopped i.entries i.after i.stop _ c.in-Some.is c.self.invariant.0.last)
    ∙ ap (λ (journal : JournalView). ends_in_tick journal.events) c.self.view_is

pub returns-in-None : goal.returns-in-None
returns-in-None c =
    let i = c.self.inside in
    sym (ends-running i.entries i.after i.stop c.in-None.is c.self.invariant.0.commands)
    ∙ ap (λ (journal : JournalView). ends_in_tick journal.events) c.self.view_is
