use Rattle.std.proofs.Common.{sym, ℤ, to_z, of_z, w64}
use Rattle.std.specs.Prelude.{None}
use Rattle.play_types.specs.Setting.{number_at}
use Rattle.play_scene.proofs.Fills.{visible-is}
use Rattle.row_render.specs.inner.Shown.{IsShownRun}
use Rattle.row_render.proofs.placing.shown_columns.Goals as goal

pub returns-in-Some-clause-hidden : goal.returns-in-Some-clause-hidden
returns-in-Some-clause-hidden c = λ x lt out.
    let layer = c.args.layer.now in
    let width = c.args.width in
    let fill = c.requires.range.fill in
    let clip = c.requires.range.clip in
    let wide = λ (z : ℤ). to_z w64 (of_z w64 z) in
    let is : IsShownRun width (wide (number_at layer.fill 0)) (wide (number_at layer.fill 2)) (wide (number_at layer.clip 0)) (wide (number_at layer.clip 2)) c.in-Some.run' =
    c.in-Some.ensures.shown in
    visible-is width layer.fill layer.clip 0 x None fill.0 fill.2 clip.0 clip.2 (sym (is.hidden x lt out))

pub returns-in-None-clause-hidden : goal.returns-in-None-clause-hidden
returns-in-None-clause-hidden c = λ x lt out.
    let layer = c.args.layer.now in
    let fill = c.requires.range.fill in
    let clip = c.requires.range.clip in
    visible-is c.args.width layer.fill layer.clip 0 x None fill.0 fill.2 clip.0 clip.2 (sym (c.shown_run.ensures.hidden c.in-None.is x lt))
