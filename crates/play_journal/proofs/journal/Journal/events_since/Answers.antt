use Rattle.std.proofs.Common.{◌≡◌, ◌∷◌, ◌++◌, ◌-◌, [], ℕ, List, Option, None, Some, drop, sym, ap, ◌∙◌, subst}
use Rattle.std.specs.Option.{option_copied}
use Rattle.std.specs.List.{AllByRecursion}
use Rattle.play_types.specs.declared.event.Event.{Event}
use Rattle.play_journal.specs.Journal.{IsJournal, JournalView}
use Rattle.play_journal.specs.Places.{Passed, passed}
use Rattle.play_journal.specs.Reading.{runs_left, tick_runs}
use Rattle.play_journal.specs.Runs.{AreRuns, HasItsTimes, Run}
use Rattle.play_journal.specs.declared.entries.Entry.{Entry}
use Rattle.play_journal.specs.inner.Left.{events_left, left_after, stop_left}
use Rattle.play_journal.proofs.Kept.{is_journal}
use Rattle.play_journal.proofs.Places.{left_is}
use Rattle.play_journal.proofs.Reading.{hold-drop, last_runs, resumed_runs, stop-left, times-left, times-resumed}
use Rattle.play_journal.proofs.journal.Journal.events_since.Goals as goal

pub returns-in-Some-clause-since : goal.returns-in-Some-clause-since
returns-in-Some-clause-since c = λ past later eq at.
    let i = c.self.inside in
    let p = c.since.inside in
    let counted = c.self.invariant.0 in
    let whole = ap (λ (journal : JournalView). journal.events) c.self.view_is ∙ eq in
    let dropped : drop p.entries i.entries ≡ c.in-Some.entry.now ∷ c.next.new.self = sym c.iter_from-entries.ensures ∙ c.in-Some.ensures.steps in
    let left = left_is i.entries i.after i.stop past later counted.commands counted.last whole
    ∙ ap (λ (q : Passed). left_after q i.entries i.after i.stop) (sym (c.since.view_is ∙ at))
    ∙ ap (λ (entries : List Entry). events_left p.ticks entries i.after (stop_left p.stopped i.stop)) dropped in
    let hold = rw dropped at (hold-drop p.entries i.entries counted.commands) in
    let runs = resumed_runs p.ticks c.in-Some.entry.now c.next.new.self i.after (stop_left p.stopped i.stop) hold (stop-left p.stopped i.stop counted.last) in
    let read = c.resumed.ensures
    ∙ ap (λ (n : ℕ). tick_runs n ++ runs_left (Some c.in-Some.entry.now.event) c.next.new.self i.after (option_copied c.stop_behind-stop.result)) c.saturating_sub.ensures
    ∙ ap (λ (stop : Option Event). tick_runs (c.in-Some.entry.now.ticks - p.ticks) ++ runs_left (Some c.in-Some.entry.now.event) c.next.new.self i.after stop) c.stop_behind-stop.ensures in
    subst (λ (events : List Event). AreRuns c.resumed.result events) (sym left) (subst (λ (rs : List Run). AreRuns rs (events_left p.ticks (c.in-Some.entry.now ∷ c.next.new.self) i.after (stop_left p.stopped i.stop))) (sym read) runs)

pub returns-in-Some-clause-times : goal.returns-in-Some-clause-times
returns-in-Some-clause-times c =
    subst (λ (runs : List Run). AllByRecursion (λ (run : Run). HasItsTimes run.event run.times) runs) (sym c.resumed.ensures)
    (times-resumed c.saturating_sub.result c.in-Some.entry.now.event c.next.new.self c.self.inside.after (option_copied c.stop_behind-stop.result))

pub returns-in-Some-clause-range : goal.returns-in-Some-clause-range
returns-in-Some-clause-range c =
    let i = c.self.inside in
    subst IsJournal c.self.view_is (is_journal _ i.entries i.after i.stop c.self.invariant.0)

pub returns-in-None-clause-since : goal.returns-in-None-clause-since
returns-in-None-clause-since c = λ past later eq at.
    let i = c.self.inside in
    let p = c.since.inside in
    let counted = c.self.invariant.0 in
    let whole = ap (λ (journal : JournalView). journal.events) c.self.view_is ∙ eq in
    let dropped : drop p.entries i.entries ≡ [] = sym c.iter_from-entries.ensures ∙ c.in-None.ensures.steps.0 in
    let left = left_is i.entries i.after i.stop past later counted.commands counted.last whole
    ∙ ap (λ (q : Passed). left_after q i.entries i.after i.stop) (sym (c.since.view_is ∙ at))
    ∙ ap (λ (entries : List Entry). events_left p.ticks entries i.after (stop_left p.stopped i.stop)) dropped in
    let runs = last_runs p.ticks i.after (stop_left p.stopped i.stop) (stop-left p.stopped i.stop counted.last) in
    let read = c.new.ensures
    ∙ ap (λ (entries : List Entry). runs_left None entries c.saturating_sub-in-None.result (option_copied c.stop_behind-stop.result)) c.in-None.ensures.steps.1
    ∙ ap (λ (n : ℕ). runs_left None [] n (option_copied c.stop_behind-stop.result)) c.saturating_sub-in-None.ensures
    ∙ ap (λ (stop : Option Event). runs_left None [] (i.after - p.ticks) stop) c.stop_behind-stop.ensures in
    subst (λ (events : List Event). AreRuns c.new.result events) (sym left) (subst (λ (rs : List Run). AreRuns rs (events_left p.ticks [] i.after (stop_left p.stopped i.stop))) (sym read) runs)

pub returns-in-None-clause-range : goal.returns-in-None-clause-range
returns-in-None-clause-range c =
    let i = c.self.inside in
    subst IsJournal c.self.view_is (is_journal _ i.entries i.after i.stop c.self.invariant.0)
