use Rattle.std.proofs.Common.{◌≡◌, ◌⊎◌, ◌∙◌, List, ap, length, subst, sym, true, ℕ}
use Rattle.std.specs.Prelude.{Some, None, Result, Ok, Err, IfOk, MatchResult, OnOk}
use Rattle.std.proofs.lemmas.Result.{IfErr-weaker, on_ok_weaker}
use Rattle.play_types.specs.History.{stop_at}
use Rattle.play_types.specs.declared.event.Event.{Event}
use Rattle.play_types.specs.declared.event.Event.TheVariants.{Stop}
use Rattle.play_types.specs.declared.event.Tag.{Tag}
use Rattle.stage_core.specs.Stage.{after_event}
use Rattle.stage_core.specs.declared.fault.Ended.{Ended}
use Rattle.stage_lock.specs.Own.{is_final, is_own}
use Rattle.stage_lock.specs.Views.{PassView, SharedView, Sizes, whole}
use Rattle.stage_lock.specs.Calls.{Adds, IsStopped, Looks, stop_tag}
use Rattle.stage_lock.specs.Seats.{pass_view}
use Rattle.stage_lock.proofs.Calls.{called_at, events_are, holds_event, stays, stop_is_own}
use Rattle.stage_lock.proofs.shared.SharedStage.stop.Goals as goal

pub put_back-requires-clause-event : goal.put_back-requires-clause-event
put_back-requires-clause-event g c =
    let seat = c.pass.inside.seat in
    let n : ℕ = c.pass.inside.number in
    let IsOurs : ℕ → Tag → Type 0 = λ k tag. (is_own k (Stop tag) ≡ true) ⊎ (is_final (Stop tag) ≡ true) in
    let first : IsOurs seat.me.0.number (stop_tag n c.args.session) = subst (λ (k : ℕ). IsOurs k (stop_tag n c.args.session)) (sym c.pass.invariant.number) (stop_is_own n c.args.session) in
    let own : IsOurs seat.me.0.number c.tag_of_stop.result = subst (λ (tag : Tag). IsOurs seat.me.0.number tag) (sym c.tag_of_stop.ensures) first in
    holds_event seat.me c.take-stage.new.seat.me c.take-stage.result c.stop-stopped.new.self c.stop-stopped.result c.take-stage.ensures.won
    (Stop c.tag_of_stop.result) c.stop-stopped.ensures.journal own

pub put_back-requires-clause-stage : goal.put_back-requires-clause-stage
put_back-requires-clause-stage g c =
    stays c.pass.inside.seat.me c.take-stage.new.seat.me c.take-stage.result c.stop-stopped.new.self c.stop-stopped.result c.take-stage.ensures.won c.stop-stopped.ensures.err

-- a stop that was taken after a history
stopped : (sizes : Sizes) (history events : List Event) (called : Result ℕ Ended) → events ≡ whole sizes history → OnOk called (stop_at events ≡ None) → IfOk called (λ at. at ≡ length events)
    → IfOk called (λ at. IsStopped sizes.given at history)
stopped sizes history events (Ok at) are running position = record { running = subst (λ (es : List Event). stop_at es ≡ None) are running; position = position ∙ ap length are }
stopped sizes history events (Err ended) are running position = tt

pub returns-clause-call : goal.returns-clause-call
returns-clause-call g c =
    let sizes : Sizes = c.args.self.now.sizes in
    let seat = c.pass.inside.seat in
    let last = c.put_back.new.seat in
    let won = c.take-stage.ensures.won in
    let same : seat.me.0.sizes ≡ sizes = ap (λ (p : PassView). p.stage.sizes) c.pass.view_is ∙ ap (λ (s : SharedView). s.sizes) c.requires.of in
    let events : c.take-stage.result.journal.events ≡ whole sizes won.log = events_are seat.me c.take-stage.new.seat.me c.take-stage.result sizes won same in
    let old : PassView = pass_view seat.table_id seat.me.0 in
    let event : PassView → Event = λ p. Stop (stop_tag p.number c.args.session) in
    let is : Stop c.tag_of_stop.result ≡ event old = ap Stop (c.tag_of_stop.ensures ∙ ap (λ (n : ℕ). stop_tag n c.args.session) (sym c.pass.invariant.number)) in
    subst (λ (p : PassView). MatchResult c.put_back.result (λ at. Adds p (event p) (IsStopped sizes.given at) (pass_view last.table_id last.me.0))
    (λ ended. Looks p (λ history. stop_at (whole sizes history) ≡ Some ended.at) (pass_view last.table_id last.me.0))) c.pass.view_is
    (called_at seat.me c.take-stage.new.seat.me c.take-stage.result c.stop-stopped.new.self c.stop-stopped.result won
    seat.table_id last.table_id last.me (event old) (IsStopped sizes.given) (λ ended history. stop_at (whole sizes history) ≡ Some ended.at) c.put_back.result
    (c.put_back.ensures.same ∙ c.take-stage.ensures.same) c.put_back.ensures.result
    (on_ok_weaker c.stop-stopped.result (λ grew. grew ∙ ap (λ (x : Event). after_event x c.take-stage.result) is) c.stop-stopped.ensures.journal)
    c.put_back.ensures.entered c.put_back.ensures.kept
    (stopped sizes won.log c.take-stage.result.journal.events c.stop-stopped.result events c.stop-stopped.ensures.running c.stop-stopped.ensures.position)
    (IfErr-weaker c.stop-stopped.result _ _ (λ ended is. sym (ap stop_at events) ∙ is) c.stop-stopped.ensures.ended))
