use Rattle.std.proofs.Common.{◌≡◌, ◌-ℤ◌, inl, inr, ap, ◌∙◌, ◌*◌, ℤ, nat_abs, min, max, arith}
use Rattle.std.proofs.lemmas.Bool.{cases_lt}
use Rattle.history_model.specs.pictures.Placing.{twice_middle, twice_part}
use Rattle.row_render.proofs.Reached.{AreBefore-at, IsShownRun-both, hidden_at, sum_is, wide_is, wide_small}
use Rattle.row_render.proofs.shown.shown_run.Goals as goal
use Rattle.row_render.proofs.shown.shown_run.Goals.{then-clip_from-fill_from, else-clip_from-fill_from, then-clip_to-fill_to, else-clip_to-fill_to}

pub returns-then-from-to-clause-hidden : goal.returns-then-from-to-clause-hidden
returns-then-from-to-clause-hidden c = λ none x lt.
    let width = c.args.width in
    let fill = c.requires.fill in
    let clip = c.requires.clip in
    let cf = c.columns_before-clip_from.result in
    let ct = c.columns_before-clip_to.result in
    let ff = c.columns_before-fill_from.result in
    let ft = c.columns_before-fill_to.result in
    let from : c.if-clip_from-fill_from.from ≡ max cf ff = elim c.if-clip_from-fill_from.branch [
      | then-clip_from-fill_from w ↦ omega (arith, w.from-is, w.if-clip_from-fill_from.true)
      | else-clip_from-fill_from w ↦ omega (arith, w.from-is, w.if-clip_from-fill_from.false)
    ] in
    let to : c.if-clip_to-fill_to.to ≡ min ct ft = elim c.if-clip_to-fill_to.branch [
      | then-clip_to-fill_to w ↦ omega (arith, w.to-is, w.if-clip_to-fill_to.true)
      | else-clip_to-fill_to w ↦ omega (arith, w.to-is, w.if-clip_to-fill_to.false)
    ] in
    let empty = c.if-from-to.true in
    hidden_at width c.args.fill.0 c.args.fill.1 c.args.clip.0 c.args.clip.1 cf ct ff ft c.if-clip_from-fill_from.from c.if-clip_to-fill_to.to x c.requires.upright
    (AreBefore-at width _ c.args.clip.0 cf (wide_is c.args.clip.0 clip.0) c.columns_before-clip_from.ensures.before c.columns_before-clip_from.ensures.after)
    (AreBefore-at width _ _ ct (sum_is c.args.clip.0 c.args.clip.1 clip.0 clip.1) c.columns_before-clip_to.ensures.before c.columns_before-clip_to.ensures.after)
    (AreBefore-at width _ c.args.fill.0 ff (wide_is c.args.fill.0 fill.0) c.columns_before-fill_from.ensures.before c.columns_before-fill_from.ensures.after)
    (AreBefore-at width _ _ ft (sum_is c.args.fill.0 c.args.fill.1 fill.0 fill.1) c.columns_before-fill_to.ensures.before c.columns_before-fill_to.ensures.after)
    from to lt
    (elim (cases_lt x c.if-clip_from-fill_from.from) [
      | inl low ↦ inl low
      | inr high ↦ inr (omega (arith, high, empty))
    ])

pub returns-clause-shown : goal.returns-clause-shown
returns-clause-shown c =
    let width = c.args.width in
    let fill = c.requires.fill in
    let clip = c.requires.clip in
    let cf = c.columns_before-clip_from.result in
    let ct = c.columns_before-clip_to.result in
    let ff = c.columns_before-fill_from.result in
    let ft = c.columns_before-fill_to.result in
    let from : c.if-clip_from-fill_from.from ≡ max cf ff = elim c.if-clip_from-fill_from.branch [
      | then-clip_from-fill_from w ↦ omega (arith, w.from-is, w.if-clip_from-fill_from.true)
      | else-clip_from-fill_from w ↦ omega (arith, w.from-is, w.if-clip_from-fill_from.false)
    ] in
    let to : c.if-clip_to-fill_to.to ≡ min ct ft = elim c.if-clip_to-fill_to.branch [
      | then-clip_to-fill_to w ↦ omega (arith, w.to-is, w.if-clip_to-fill_to.true)
      | else-clip_to-fill_to w ↦ omega (arith, w.to-is, w.if-clip_to-fill_to.false)
    ] in
    IsShownRun-both width c.args.fill.0 c.args.fill.1 c.args.clip.0 c.args.clip.1 cf ct ff ft _ c.requires.upright (wide_small c.args.fill.1 fill.1)
    (AreBefore-at width _ c.args.clip.0 cf (wide_is c.args.clip.0 clip.0) c.columns_before-clip_from.ensures.before c.columns_before-clip_from.ensures.after)
    (AreBefore-at width _ _ ct (sum_is c.args.clip.0 c.args.clip.1 clip.0 clip.1) c.columns_before-clip_to.ensures.before c.columns_before-clip_to.ensures.after)
    (AreBefore-at width _ c.args.fill.0 ff (wide_is c.args.fill.0 fill.0) c.columns_before-fill_from.ensures.before c.columns_before-fill_from.ensures.after)
    (AreBefore-at width _ _ ft (sum_is c.args.fill.0 c.args.fill.1 fill.0 fill.1) c.columns_before-fill_to.ensures.before c.columns_before-fill_to.ensures.after)
    c.columns_before-clip_to.ensures.range from to c.if-from-to.false
    (c.distance.ensures.value ∙ ap (λ (z : ℤ). twice_middle c.if-clip_from-fill_from.from -ℤ twice_part width z) (wide_is c.args.fill.0 fill.0))
    (ap (λ (z : ℤ). 2 * nat_abs z) (wide_is c.args.fill.1 fill.1))
