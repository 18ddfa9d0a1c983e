use Rattle.std.proofs.Common.{◌≡◌, ◌∙◌, ap, eq-eqb, inl, subst, sym, ℕ}
use Rattle.std.specs.Prelude.{MatchResult}
use Rattle.play_types.specs.declared.event.Event.{Event}
use Rattle.play_types.specs.declared.event.Event.TheVariants.{Do}
use Rattle.stage_core.specs.Stage.{IsNotTaken}
use Rattle.stage_lock.specs.Views.{PassView, SharedView, Sizes, journal_of}
use Rattle.stage_lock.specs.Calls.{Adds, IsAnswered, Looks, tag_of}
use Rattle.stage_lock.specs.Seats.{pass_view}
use Rattle.stage_lock.proofs.Calls.{asked_at, holds_event, stays}
use Rattle.stage_lock.proofs.shared.SharedStage.ask.Goals as goal

-- the event is the pass's own
pub put_back-requires-clause-event : goal.put_back-requires-clause-event
put_back-requires-clause-event g c =
    let seat = c.pass.inside.seat in
    holds_event seat.me c.take-stage.new.seat.me c.take-stage.result c.apply-answered.new.self c.apply-answered.result c.take-stage.ensures.won
    (Do (tag_of c.pass.inside.number c.args.session) c.args.cmd) c.apply-answered.ensures.journal (inl (eq-eqb c.pass.inside.number seat.me.0.number (sym c.pass.invariant.number)))

pub put_back-requires-clause-stage : goal.put_back-requires-clause-stage
put_back-requires-clause-stage g c =
    stays c.pass.inside.seat.me c.take-stage.new.seat.me c.take-stage.result c.apply-answered.new.self c.apply-answered.result c.take-stage.ensures.won c.apply-answered.ensures.err

pub returns-clause-call : goal.returns-clause-call
returns-clause-call g c =
    let sizes : Sizes = c.args.self.now.sizes in
    let seat = c.pass.inside.seat in
    let last = c.put_back.new.seat in
    let event : PassView → Event = λ p. Do (tag_of p.number c.args.session) c.args.cmd in
    let is : Do (tag_of c.pass.inside.number c.args.session) c.args.cmd ≡ event (pass_view seat.table_id seat.me.0) =
    ap (λ (n : ℕ). Do (tag_of n c.args.session) c.args.cmd) (sym c.pass.invariant.number) in
    let same : seat.me.0.sizes ≡ sizes = ap (λ (p : PassView). p.stage.sizes) c.pass.view_is ∙ ap (λ (s : SharedView). s.sizes) c.requires.of in
    subst (λ (p : PassView). MatchResult c.put_back.result
    (λ reply. Adds p (event p) (IsAnswered sizes (event p) reply) (pass_view last.table_id last.me.0))
    (λ fault. Looks p (λ history. IsNotTaken (journal_of sizes history) 1 fault) (pass_view last.table_id last.me.0))) c.pass.view_is
    (asked_at seat.table_id last.table_id seat.me c.take-stage.new.seat.me last.me c.take-stage.result c.apply-answered.new.self sizes
    (Do (tag_of c.pass.inside.number c.args.session) c.args.cmd) (event (pass_view seat.table_id seat.me.0)) c.apply-answered.result c.put_back.result
    c.take-stage.ensures.won (c.put_back.ensures.same ∙ c.take-stage.ensures.same) same is c.put_back.ensures.result
    c.apply-answered.ensures.journal c.put_back.ensures.entered c.put_back.ensures.kept c.apply-answered.ensures.room c.apply-answered.ensures.answer c.apply-answered.ensures.fault)
