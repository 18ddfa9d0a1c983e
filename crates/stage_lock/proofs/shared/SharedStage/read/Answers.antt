use Rattle.std.proofs.Common.{◌≡◌, ◌∙◌, ap, subst, refl}
use Rattle.std.specs.Fn.{CalledAt}
use Rattle.std.proofs.lemmas.Fn.{called_at}
use Rattle.play_journal.specs.Journal.{JournalView}
use Rattle.stage_lock.specs.Views.{PassView, SharedView, Sizes, journal_of}
use Rattle.stage_lock.specs.Calls.{Looks}
use Rattle.stage_lock.specs.Seats.{pass_view}
use Rattle.stage_lock.proofs.Calls.{journal_is, looks_at}
use Rattle.stage_lock.proofs.shared.SharedStage.read.Goals as goal

-- the closure met the journal that was found
pub returns-clause-look : goal.returns-clause-look
returns-clause-look g c =
    let seat = c.pass.inside.seat in
    let last = c.give_back.new.seat in
    let sizes : Sizes = c.args.self.now.sizes in
    let same : seat.me.0.sizes ≡ sizes = ap (λ (p : PassView). p.stage.sizes) c.pass.view_is ∙ ap (λ (s : SharedView). s.sizes) c.requires.of in
    let IsShown : JournalView → Type 0 = λ journal. CalledAt g.F.FnMut c.args.look.now journal c.look-found.result c.look-found.new.self in
    let shown : IsShown c.journal.result.now = called_at g.F.FnMut c.look-found.ensures refl in
    let found : IsShown (journal_of sizes c.take-lent.ensures.won.log) =
    subst IsShown (c.journal.ensures ∙ journal_is seat.me c.take-lent.new.seat.me c.take-lent.result sizes c.take-lent.ensures.won same) shown in
    subst (λ (p : PassView). Looks p (λ history. IsShown (journal_of sizes history)) (pass_view last.table_id last.me.0)) c.pass.view_is
    (looks_at seat.table_id last.table_id seat.me c.take-lent.new.seat.me last.me c.take-lent.result (λ history. IsShown (journal_of sizes history))
    c.take-lent.ensures.won (c.give_back.ensures.same ∙ c.take-lent.ensures.same) c.give_back.ensures.me found)
