use Rattle.std.proofs.Common.{List, Option, None, ap, sym, ◌∙◌, subst}
use Rattle.std.specs.Option.{option_copied}
use Rattle.play_types.specs.declared.event.Event.{Event}
use Rattle.play_journal.specs.Journal.{JournalView}
use Rattle.play_journal.specs.Runs.{AreRuns, Run}
use Rattle.play_journal.specs.declared.entries.Entry.{Entry}
use Rattle.play_journal.specs.Kept.{kept_events}
use Rattle.play_journal.specs.Reading.{runs_left}
use Rattle.play_journal.proofs.Reading.{are_runs}
use Rattle.play_journal.proofs.journal.Journal.events.Goals as goal

pub returns : goal.returns
returns c =
    let i = c.self.inside in
    let runs = are_runs i.entries i.after i.stop c.self.invariant.0.commands c.self.invariant.0.last in
    let view = ap (λ (journal : JournalView). journal.events) c.self.view_is in
    let read = c.new.ensures
    ∙ ap (λ (entries : List Entry). runs_left None entries i.after (option_copied c.as_ref.result)) c.iter.ensures
    ∙ ap (λ (stop : Option Event). runs_left None i.entries i.after stop) c.as_ref.ensures.value in
    subst (λ (events : List Event). AreRuns c.new.result events) view
    (subst (λ (rs : List Run). AreRuns rs (kept_events i.entries i.after i.stop)) (sym read) runs)
