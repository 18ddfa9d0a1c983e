use Rattle.std.proofs.Common.{◌≡◌, ℕ, ◌<◌, ◌≤◌, subst, ◌∙◌, arith}
use Rattle.std.specs.Prelude.{All, Bool}
use Rattle.play_types.specs.Columns.{pick}
use Rattle.play_types.specs.declared.transition.Kind.{Kind}
use Rattle.play_transitions.specs.Runs.{run_column, run_list}
use Rattle.play_transitions.specs.declared.row.Run.{Run}
use Rattle.row_render.proofs.Transitions.{ended_row, running_row}
use Rattle.row_render.proofs.raster.raster_row.Goals as goal

pub returns-then-step-duration-clause-row : goal.returns-then-step-duration-clause-row
returns-then-step-duration-clause-row c = λ pictures are.
    ended_row pictures c.args.view.now.size c.args.layer.now c.args.y c.args.row.now c.still_columns.new.row c.requires.row
    (omega (arith, c.if-step-duration.true, c.duration.ensures.value)) (c.still_columns.ensures.row pictures are)

pub returns-clause-row : goal.returns-clause-row
returns-clause-row c = λ pictures are.
    let layer = c.args.layer.now in
    let width = c.args.view.now.size.width in
    let columns : All (λ (run : Run). (x : ℕ) → run.from ≤ x → x < run.to →
    run_column run x ≡ pick layer.trans.kind layer.trans.leftward layer.step layer.trans.duration width x) (run_list c.runs-pair.result) =
    subst (λ (d : ℕ). All (λ (run : Run). (x : ℕ) → run.from ≤ x → x < run.to → run_column run x ≡ pick layer.trans.kind layer.trans.leftward layer.step d width x) (run_list c.runs-pair.result))
    c.duration-2.ensures.value
    (subst (λ (leftward : Bool). All (λ (run : Run). (x : ℕ) → run.from ≤ x → x < run.to → run_column run x ≡ pick layer.trans.kind leftward layer.step c.duration-2.result width x) (run_list c.runs-pair.result))
    c.leftward.ensures
    (subst (λ (kind : Kind). All (λ (run : Run). (x : ℕ) → run.from ≤ x → x < run.to → run_column run x ≡ pick kind c.leftward.result layer.step c.duration-2.result width x) (run_list c.runs-pair.result))
    c.kind.ensures c.runs-pair.ensures.columns)) in
    running_row pictures c.args.view.now.size c.args.layer.now c.args.y c.runs-pair.result.first c.runs-pair.result.second c.run_columns.new.row c.run_columns-2.new.row
    (omega (arith, c.if-step-duration.false, c.duration.ensures.value))
    (c.run_columns-2.auto.row ∙ c.run_columns.auto.row ∙ c.fill_row.auto.row ∙ c.requires.row)
    c.runs-pair.ensures.cover
    columns
    (c.run_columns.ensures.there pictures are)
    c.run_columns-2.ensures.others
    (c.run_columns-2.ensures.there pictures are)
