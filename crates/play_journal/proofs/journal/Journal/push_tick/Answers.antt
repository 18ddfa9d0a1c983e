use Rattle.std.proofs.Common.{◌<◌, ap, ◌∙◌, arith}
use Rattle.play_types.specs.History.{stop_at, ticks}
use Rattle.play_types.specs.declared.event.Event.TheVariants.{Tick}
use Rattle.play_types.specs.declared.event.TheConstants.{MAX_TICKS}
use Rattle.play_journal.specs.Journal.{JournalView, followed_by}
use Rattle.play_journal.proofs.Kept.{counted-tick, kept-tick, no_stop}
use Rattle.play_journal.proofs.journal.Journal.push_tick.Goals as goal

pub invariant_of-self : goal.invariant_of-self
invariant_of-self c =
    let i = c.self.inside in
    let counted = c.self.invariant.0 in
    let none = no_stop _ i.entries i.after i.stop counted (ap (λ (journal : JournalView). stop_at journal.events) c.self.view_is ∙ c.requires.running) in
    let view = ap (λ (journal : JournalView). ticks journal.events) c.self.view_is in
    let time : i.ticks < MAX_TICKS = omega (arith, view, counted.ticks, c.requires.time) in
    (counted-tick _ i.entries i.after i.stop counted none time, c.self.invariant.1)

pub returns : goal.returns
returns c =
    let i = c.self.inside in
    let none = no_stop _ i.entries i.after i.stop c.self.invariant.0 (ap (λ (journal : JournalView). stop_at journal.events) c.self.view_is ∙ c.requires.running) in
    ap (λ events. record { limit = i.limit; events = events }) (kept-tick i.entries i.after i.stop none)
    ∙ ap (followed_by Tick) c.self.view_is
