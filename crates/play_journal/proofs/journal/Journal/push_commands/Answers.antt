use Rattle.std.proofs.Common.{◌+◌, ◌≤◌, List, ap, ◌∙◌, arith}
use Rattle.play_types.specs.History.{held, held_by, stop_at}
use Rattle.play_journal.specs.Journal.{JournalView, followed_by}
use Rattle.play_journal.specs.declared.entries.Entry.{Entry}
use Rattle.play_journal.specs.Kept.{kept_events}
use Rattle.play_journal.proofs.Kept.{counted-commands, kept-entry, no_stop}
use Rattle.play_journal.proofs.journal.Journal.push_commands.Goals as goal

pub invariant_of-self-2 : goal.invariant_of-self-2
invariant_of-self-2 c =
    let i = c.self.inside in
    let none = no_stop _ i.entries i.after i.stop c.self.invariant.0 (ap (λ (journal : JournalView). stop_at journal.events) c.self.view_is ∙ c.requires.running) in
    let view = ap (λ (journal : JournalView). held journal.events) c.self.view_is in
    let limit = ap (λ (journal : JournalView). journal.limit) c.self.view_is in
    let room : i.held + held_by c.args.event ≤ i.limit = omega (arith, view, limit, c.self.invariant.0.held, c.requires.room, c.requires.commands) in
    let counted = counted-commands _ i.entries i.after i.stop c.args.event c.self.invariant.0 none c.requires.event room in
    (rw (c.in_ok-push.ensures.ok, c.requires.commands) counted, c.self.invariant.1)

pub returns-clause-ok : goal.returns-clause-ok
returns-clause-ok c =
    let i = c.self.inside in
    let none = no_stop _ i.entries i.after i.stop c.self.invariant.0 (ap (λ (journal : JournalView). stop_at journal.events) c.self.view_is ∙ c.requires.running) in
    ap (λ (entries : List Entry). record { limit = i.limit; events = kept_events entries 0 i.stop }) c.in_ok-push.ensures.ok
    ∙ ap (λ events. record { limit = i.limit; events = events }) (kept-entry i.entries i.after i.stop c.args.event none)
    ∙ ap (followed_by c.args.event) c.self.view_is
