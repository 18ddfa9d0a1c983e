use Rattle.std.proofs.Common.{ap, ◌∙◌}
use Rattle.play_types.specs.History.{stop_at}
use Rattle.play_types.specs.declared.event.Event.TheVariants.{Stop}
use Rattle.play_journal.specs.Journal.{JournalView, followed_by}
use Rattle.play_journal.proofs.Kept.{counted-stop, kept-stop, no_stop}
use Rattle.play_journal.proofs.journal.Journal.push_stop.Goals as goal

pub invariant_of-self : goal.invariant_of-self
invariant_of-self c =
    let i = c.self.inside in
    let none = no_stop _ i.entries i.after i.stop c.self.invariant.0 (ap (λ (journal : JournalView). stop_at journal.events) c.self.view_is ∙ c.requires) in
    (counted-stop _ i.entries i.after i.stop c.args.tag c.self.invariant.0 none, c.self.invariant.1)

pub returns : goal.returns
returns c =
    let i = c.self.inside in
    let none = no_stop _ i.entries i.after i.stop c.self.invariant.0 (ap (λ (journal : JournalView). stop_at journal.events) c.self.view_is ∙ c.requires) in
    ap (λ events. record { limit = i.limit; events = events }) (kept-stop i.entries i.after i.stop (Stop c.args.tag) none)
    ∙ ap (followed_by (Stop c.args.tag)) c.self.view_is
