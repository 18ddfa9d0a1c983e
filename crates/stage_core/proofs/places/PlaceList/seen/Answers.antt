use Rattle.std.proofs.Common.{◌≡◌, ℕ, ◌+◌, ◌<◌, ◌≤◌, List, [], ◌∷◌, get_or, length, drop, filter_map, slice_get, sym, ap, ◌∙◌, subst, arith}
use Rattle.std.specs.Prelude.{Some, None}
use Rattle.std.proofs.lemmas.List.{drop_all}
use Rattle.history_model.specs.stage.Life.{Life}
use Rattle.history_model.specs.stage.Places.{Places}
use Rattle.stage_core.specs.declared.seen.LayerView.{LayerView}
use Rattle.stage_core.specs.inner.Seen.{seen_of, view_of}
use Rattle.stage_core.proofs.SeenLayers.{behind_first, seen-front, seen-none, seen_more}
use Rattle.stage_core.proofs.places.PlaceList.seen.Goals.{in-Some+else-left-eq0, in_default}
use Rattle.stage_core.proofs.places.PlaceList.seen.Goals as goal

-- one place is passed over: it has no foreground, or it is not yet the one that is meant
pub loop-place-preserved : goal.loop-place-preserved
loop-place-preserved c =
    let xs : Places = c.args.self.now in
    let same : c.deref-place-items.result.now ≡ xs = c.deref-place-items.ensures.value ∙ c.self.view_is in
    let i : ℕ = c.loop-place.place-index in
    let x : ℕ × Life = c.place-item.result in
    let within : i < length xs = subst (λ (ys : Places). i < length ys) same c.loop-place-test.true in
    let read : get_or xs i x ≡ x = sym (c.place-item.is ∙ ap (λ (ys : Places). get_or ys i x) same) in
    let rest : List LayerView = filter_map seen_of (drop (i + 1) xs) in
    elim c.match-front.branch [
      | in-Some+else-left-eq0 w ↦
          let told : LayerView = view_of x.0 w.in-Some.front in
          let more = seen_more xs i x within read (Some told) (seen-front x w.in-Some.front (sym c.front.ensures ∙ w.in-Some.is)) in
          record {
            value = ap (slice_get rest) w.left-is
                ∙ sym (behind_first told rest c.loop-place.left w.if-left-eq0.false)
                ∙ sym (ap (λ (ys : List LayerView). slice_get ys c.loop-place.left) more)
                ∙ c.loop-place.invariant.value;
            passed = (let before = c.loop-place.invariant.passed in omega (arith, before, w.left-is, w.if-left-eq0.false));
          }
      | in_default w ↦
          let more = seen_more xs i x within read None (seen-none x (sym c.front.ensures ∙ w.in_default.is)) in
          record {
            value = ap (slice_get rest) w.left-is
                ∙ sym (ap (λ (ys : List LayerView). slice_get ys c.loop-place.left) more)
                ∙ c.loop-place.invariant.value;
            passed = (let before = c.loop-place.invariant.passed in omega (arith, before, w.left-is));
          }
    ]

-- the place that is meant
pub returns-then-left-eq0-clause-value : goal.returns-then-left-eq0-clause-value
returns-then-left-eq0-clause-value c =
    let xs : Places = c.args.self.now in
    let same : c.deref-place-items.result.now ≡ xs = c.deref-place-items.ensures.value ∙ c.self.view_is in
    let i : ℕ = c.loop-place.place-index in
    let x : ℕ × Life = c.place-item.result in
    let within : i < length xs = subst (λ (ys : Places). i < length ys) same c.loop-place-test.true in
    let read : get_or xs i x ≡ x = sym (c.place-item.is ∙ ap (λ (ys : Places). get_or ys i x) same) in
    let told : LayerView = view_of x.0 c.in-Some.front in
    let rest : List LayerView = filter_map seen_of (drop (i + 1) xs) in
    let more = seen_more xs i x within read (Some told) (seen-front x c.in-Some.front (sym c.front.ensures ∙ c.in-Some.is)) in
    ap Some c.of.ensures
    ∙ ap (slice_get (told ∷ rest)) (sym c.if-left-eq0.true)
    ∙ sym (ap (λ (ys : List LayerView). slice_get ys c.loop-place.left) more)
    ∙ c.loop-place.invariant.value

pub returns-then-left-eq0-clause-range : goal.returns-then-left-eq0-clause-range
returns-then-left-eq0-clause-range c =
    let size = ap length c.deref-place-items.ensures.value in
    let passed = c.loop-place.invariant.passed in
    let counted = c.self.invariant.counted in
    let few = c.self.invariant.few in
    omega (arith, passed, c.if-left-eq0.true, c.loop-place-test.true, size, counted, few)

-- all places were passed over
pub returns-clause-value : goal.returns-clause-value
returns-clause-value c =
    let xs : Places = c.args.self.now in
    let same : c.deref-place-items.result.now ≡ xs = c.deref-place-items.ensures.value ∙ c.self.view_is in
    let none : drop c.loop-place.place-index xs ≡ [] =
    drop_all c.loop-place.place-index xs (subst (λ (ys : Places). length ys ≤ c.loop-place.place-index) same c.loop-place-test.false) in
    sym (ap (λ (ys : Places). slice_get (filter_map seen_of ys) c.loop-place.left) none) ∙ c.loop-place.invariant.value
