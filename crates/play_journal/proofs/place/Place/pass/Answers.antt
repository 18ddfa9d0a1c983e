use Rattle.std.proofs.Common.{◌≡◌, ◌+◌, replicate, sym, ap, ◌∙◌, arith}
use Rattle.play_types.specs.declared.event.Event.{Event}
use Rattle.play_types.specs.declared.event.Event.TheVariants.{Tick}
use Rattle.play_journal.specs.Places.{Passed, passed_more}
use Rattle.play_journal.proofs.Places.{passed-ticks}
use Rattle.play_journal.proofs.place.Place.pass.Goals as goal

pub returns-in-Tick : goal.returns-in-Tick
returns-in-Tick c = λ has entries few.
    let i = c.self.inside in
    let before = ap (λ (p : Passed). p.ticks) c.self.view_is in
    let sum : c.saturating_add-self-inside.result ≡ i.ticks + c.args.times = grind (arith, c.saturating_add-self-inside.ensures, before, few) in
    (λ j. record { entries = i.entries; ticks = sum j; stopped = i.stopped })
    ∙ sym (passed-ticks i.entries i.ticks c.args.times i.stopped)
    ∙ ap (λ (p : Passed). passed_more p (replicate c.args.times Tick)) c.self.view_is
    ∙ ap (λ (e : Event). passed_more c.args.self.now (replicate c.args.times e)) (sym c.in-Tick.is)
