use Rattle.std.proofs.Common.{Option, Some, length, option_map, subst, sym, ap, ◌∙◌}
use Rattle.play_types.specs.History.{stop_at}
use Rattle.play_types.specs.declared.event.Event.{Event}
use Rattle.play_journal.specs.Journal.{IsJournal, JournalView}
use Rattle.play_journal.specs.Kept.{events_before}
use Rattle.play_journal.proofs.Kept.{is_journal, stop_at-kept}
use Rattle.play_journal.proofs.journal.Journal.stopped.Goals as goal

pub returns-in-Some-clause-value : goal.returns-in-Some-clause-value
returns-in-Some-clause-value c =
    let i = c.self.inside in
    let at = stop_at-kept i.entries i.after i.stop c.self.invariant.0.commands c.self.invariant.0.last in
    ap Some c.self.invariant.0.before
    ∙ sym (at ∙ ap (λ (stop : Option Event). option_map (λ _. length (events_before i.entries i.after)) stop) c.in-Some.is)
    ∙ ap (λ (journal : JournalView). stop_at journal.events) c.self.view_is

pub returns-in-Some-clause-range : goal.returns-in-Some-clause-range
returns-in-Some-clause-range c =
    subst IsJournal c.self.view_is
    (is_journal _ c.self.inside.entries c.self.inside.after c.self.inside.stop c.self.invariant.0)

pub returns-in-None-clause-value : goal.returns-in-None-clause-value
returns-in-None-clause-value c =
    let i = c.self.inside in
    let at = stop_at-kept i.entries i.after i.stop c.self.invariant.0.commands c.self.invariant.0.last in
    sym (at ∙ ap (λ (stop : Option Event). option_map (λ _. length (events_before i.entries i.after)) stop) c.in-None.is)
    ∙ ap (λ (journal : JournalView). stop_at journal.events) c.self.view_is

pub returns-in-None-clause-range : goal.returns-in-None-clause-range
returns-in-None-clause-range c =
    subst IsJournal c.self.view_is
    (is_journal _ c.self.inside.entries c.self.inside.after c.self.inside.stop c.self.invariant.0)
