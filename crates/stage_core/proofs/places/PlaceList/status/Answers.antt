use Rattle.std.proofs.Common.{◌≡◌, ℕ, ◌<◌, get_or, length, sym, ap, ◌∙◌, subst}
use Rattle.std.specs.Prelude.{None}
use Rattle.std.specs.List.{list_any}
use Rattle.std.proofs.lemmas.Bool.{not-false, not-true}
use Rattle.history_model.specs.stage.Answer.{status_of}
use Rattle.history_model.specs.stage.Life.{Life}
use Rattle.history_model.specs.stage.Places.{Places}
use Rattle.history_model.specs.stage.StageHistory.{foreground_of}
use Rattle.stage_core.proofs.Statuses.{IsTold, is_playing, more-none, paused_more, status-playing, told, untold}
use Rattle.stage_core.proofs.places.PlaceList.status.Goals.{in-Some+else-not-front, in_default}
use Rattle.stage_core.proofs.places.PlaceList.status.Goals as goal

-- one place more: a foreground that is paused, or none
pub loop-place-preserved : goal.loop-place-preserved
loop-place-preserved c =
    let xs : Places = c.args.self.now in
    let same : c.deref-place-items.result.now ≡ xs = c.deref-place-items.ensures.value ∙ c.self.view_is in
    let i : ℕ = c.loop-place.place-index in
    let x : ℕ × Life = c.place-item.result in
    let within : i < length xs = subst (λ (ys : Places). i < length ys) same c.loop-place-test.true in
    let read : get_or xs i x ≡ x = sym (c.place-item.is ∙ ap (λ (ys : Places). get_or ys i x) same) in
    elim c.match-front.branch [
      | in-Some+else-not-front w ↦
          let found : IsTold (foreground_of x) w.in-Some.front = told (foreground_of x) w.in-Some.front (sym c.front.ensures ∙ w.in-Some.is) in
          let more = paused_more xs i x within read found.foreground found.found_is
          (found.paused_is ∙ not-false w.in-Some.front.paused w.if-not-front.false) c.loop-place.invariant.none in
          record { none = more.none; status = w.status-is ∙ more.status }
      | in_default w ↦
          let gone : foreground_of x ≡ None = untold (foreground_of x) (sym c.front.ensures ∙ w.in_default.is) in
          record {
            none = ap (list_any is_playing) (more-none xs i x within read gone) ∙ c.loop-place.invariant.none;
            status = w.status-is ∙ c.loop-place.invariant.status ∙ ap status_of (sym (more-none xs i x within read gone));
          }
    ]

-- a foreground that is not paused
pub returns-then-not-front : goal.returns-then-not-front
returns-then-not-front c =
    let xs : Places = c.args.self.now in
    let same : c.deref-place-items.result.now ≡ xs = c.deref-place-items.ensures.value ∙ c.self.view_is in
    let i : ℕ = c.loop-place.place-index in
    let x : ℕ × Life = c.place-item.result in
    let within : i < length xs = subst (λ (ys : Places). i < length ys) same c.loop-place-test.true in
    let read : get_or xs i x ≡ x = sym (c.place-item.is ∙ ap (λ (ys : Places). get_or ys i x) same) in
    let found : IsTold (foreground_of x) c.in-Some.front = told (foreground_of x) c.in-Some.front (sym c.front.ensures ∙ c.in-Some.is) in
    sym (status-playing xs i x found.foreground within read found.found_is (found.paused_is ∙ not-true c.in-Some.front.paused c.if-not-front.true))
